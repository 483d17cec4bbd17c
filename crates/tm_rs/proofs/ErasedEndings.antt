-- What the recurrence over the modified syndromes says of patterns with erased places.
use Rattle.std.proofs.Common.{◌≡◌, ◌≢◌, ◌<◌, ◌≤◌, ◌+◌, ◌-◌, ◌*◌, ℕ, zero, suc, List, [], ◌∷◌, length, take, get_or, arith, ap, sym, ◌∙◌, refl, subst, inl, inr, true, false, Bool}
use Rattle.std.proofs.lemmas.Bool.{cases_eq}
use Rattle.tm_gf256.specs.declared.Gf.{Gf}
use Rattle.tm_gf256.specs.Field.{times}
use Rattle.tm_gf256.specs.Poly.{entry, numbers, value_at}
use Rattle.tm_gf256.proofs.Ring.{times-zero}
use Rattle.tm_rs_code.specs.Code.{place_of}
use Rattle.tm_rs_code.specs.Erasures.{IsErasedPattern, count_erased, marks}
use Rattle.tm_rs_code.specs.Pattern.{Explains, locator_of, roots_below}
use Rattle.tm_rs_code.specs.Recurrence.{discrepancy, listing}
use Rattle.tm_rs_code.specs.ErrorValues.{symbol_at}
use Rattle.tm_rs_code.proofs.Windows.{window}
use Rattle.tm_rs_code.proofs.Recurrence.{discrepancy-window}
use Rattle.tm_rs_code.proofs.Corrections.{symbol-index}
use Rattle.tm_rs_code.proofs.ErasedPlaces.{VanishesAt, erasures_vanish, scaled_word, root_has_symbol, symbol_has_root}
use Rattle.tm_rs_code.proofs.ErasedPatterns.{AreModified, Found, ZeroInside, erased_explains, erased_exists}
use Rattle.tm_rs.specs.Locator.{AvoidsErased, IsLocatorOf, LocatesErased}
use Rattle.tm_rs.specs.State.{IsShortest, Unexplained}
use Rattle.tm_rs.proofs.Endings.{exists_at_end, located_at_end, none_at_end}

pub modified_is : (e : ℕ) (fs : List Bool) (s t c : ℕ → ℕ) (count known : ℕ) → count ≡ count_erased fs
    → known ≡ 2 * e - count_erased fs
    → listing c 0 (suc count) ≡ locator_of (marks fs) → ((m : ℕ) → m < known
    → t m ≡ discrepancy c s (m + count) (suc count)) → AreModified e fs s t
modified_is e fs s t c count known ec ek listed h m lt =
    h m (omega arith) ∙ discrepancy-window c s count m ∙ ap (λ (ys : List ℕ). window ys s m) listed

-- ---- how many steps

-- of a factor for each of s places, s + 1 products for each of k syndromes, and the recurrence over these
most : (s k a b c d : ℕ) → 2 * b ≡ 2 * a + s * (s + 1) → c ≡ b + k * (s + 1) → d ≤ c + k * (k + 3)
    → d ≤ a + (s * (s + 1) + k * (k + s + 4))
most s k a b c d factors modified rest = grind arith

pub most_steps : (e s e' s' a b c d : ℕ) → e' ≡ e → s' ≡ s → 2 * b ≡ 2 * a + s' * (s' + 1)
    → c ≡ b + (2 * e' - s') * (s' + 1)
    → d ≤ c + (2 * e' - s') * (2 * e' - s' + 3) → s ≤ 2 * e → d ≤ a + (s * (s + 1) + (2 * e - s) * (2 * e + 4))
most_steps e s e' s' a b c d same_e same_s factors modified rest few =
    let all : 2 * e - s + s ≡ 2 * e = omega (arith, few) in
    let P : ℕ → ℕ → Type 0 = λ x y. (2 * b ≡ 2 * a + y * (y + 1)) × (c ≡ b + (2 * x - y) * (y + 1))
    × (d ≤ c + (2 * x - y) * (2 * x - y + 3)) in
    let h = subst (λ x. P x s) same_e (subst (P e') same_s (factors, modified, rest)) in
    subst (λ t. d ≤ a + (s * (s + 1) + (2 * e - s) * (t + 4))) all (most s (2 * e - s) a b c d h.0 h.1 h.2)

pub least_steps : (e s e' s' a b c d : ℕ) → e' ≡ e → s' ≡ s → 2 * b ≡ 2 * a + s' * (s' + 1)
    → c ≡ b + (2 * e' - s') * (s' + 1) → c ≤ d
    → 2 * a + s * (s + 1) + 2 * ((2 * e - s) * (s + 1)) ≤ 2 * d
least_steps e s e' s' a b c d same_e same_s factors modified later =
    let P : ℕ → ℕ → Type 0 = λ x y. (2 * b ≡ 2 * a + y * (y + 1)) × (c ≡ b + (2 * x - y) * (y + 1)) in
    let h = subst (λ x. P x s) same_e (subst (P e') same_s (factors, modified)) in
    omega (arith, h.0, h.1, later)

-- ---- zeros by index

zero_at : (fs : List Bool) (xs : List ℕ) (i : ℕ) → ZeroInside fs xs → i < length xs → get_or fs i false ≡ true
    → get_or xs i 0 ≡ 0
zero_at [] xs i z h e = absurd (differ e)
  where
    differ : false ≡ true → ⊥
    differ e = cc
zero_at (f ∷ fs) [] i z h e = refl
zero_at (f ∷ fs) (x ∷ xs) zero z h e = z.0 e
zero_at (f ∷ fs) (x ∷ xs) (suc i) z h e = zero_at fs xs i z.1 (omega arith) e

zero_inside : (fs : List Bool) (xs : List ℕ) → length xs ≡ length fs
    → ((i : ℕ) → i < length fs → get_or fs i false ≡ true → get_or xs i 0 ≡ 0) → ZeroInside fs xs
zero_inside [] xs l h = tt
zero_inside (f ∷ fs) [] l h = tt
zero_inside (f ∷ fs) (x ∷ xs) l h =
    ((λ e. h 0 (omega arith) e), zero_inside fs xs (omega arith) (λ i lt e. h (suc i) (omega arith) e))

scaled_zero : (g : List ℕ) (fs : List Bool) (w : List ℕ) → length w ≡ length fs → VanishesAt g fs
    → ZeroInside fs (scaled_word (value_at g) w)
scaled_zero g [] w l v = tt
scaled_zero g (f ∷ fs) [] l v = tt
scaled_zero g (f ∷ fs) (w ∷ ws) l v =
    let same : length ws ≡ length fs = omega arith in (
      (λ e. ap (λ (n : ℕ). times w (value_at g (place_of n))) same ∙ ap (times w) (v.0 e) ∙ times-zero w),
      scaled_zero g fs ws same v.2,
    )

-- ---- none

pub none_unexplained : (e : ℕ) (fs : List Bool) (s t : ℕ → ℕ) → length fs ≤ 255 → AreModified e fs s t
    → Unexplained (2 * e - count_erased fs) t
    → (w : List ℕ) → IsErasedPattern e fs s w → ⊥
none_unexplained e fs s t short comb none w p =
    none e (length fs) short (scaled_word (value_at (locator_of (marks fs))) w)
    (erased_explains e fs s t w short p comb)

pub none_by_roots : (e : ℕ) (fs : List Bool) (s t : ℕ → ℕ) (cs : List Gf) (l : ℕ) → length fs ≤ 255
    → AreModified e fs s t
    → IsShortest (2 * e - count_erased fs) t (entry cs) l → length cs ≡ 17 → e ≤ 16
    → length (roots_below (numbers (take (l + 1) cs)) (length fs)) ≢ l → (w : List ℕ) → IsErasedPattern e fs s w → ⊥
none_by_roots e fs s t cs l short comb h len most ne w p =
    none_at_end e (2 * e - count_erased fs) (length fs) t cs l h short len (omega arith) ne
    (scaled_word (value_at (locator_of (marks fs))) w) (erased_explains e fs s t w short p comb)

-- where there is a pattern no erased place is a root
avoids : (e : ℕ) (fs : List Bool) (s t : ℕ → ℕ) (cs : List Gf) (l : ℕ) → length fs ≤ 255 → AreModified e fs s t
    → IsShortest (2 * e - count_erased fs) t (entry cs) l → length cs ≡ 17 → e ≤ 16
    → (w : List ℕ) → IsErasedPattern e fs s w → AvoidsErased (numbers (take (l + 1) cs)) fs
avoids e fs s t cs l short comb h len most w p i lt f z =
    let g : List ℕ = locator_of (marks fs) in
    let v : List ℕ = scaled_word (value_at g) w in
    let ex : Explains e (2 * e - count_erased fs) (length fs) t v = erased_explains e fs s t w short p comb in
    let is : IsLocatorOf cs l v = located_at_end e (2 * e - count_erased fs) (length fs) t cs l h short len
    (omega arith) v ex in
    let at : length v - 1 - i ≡ length fs - 1 - i = ap (λ (n : ℕ). n - 1 - i) ex.size in
    root_has_symbol v (length fs - 1 - i) ex.elements (omega (arith, ex.size)) (omega arith)
    (ap (λ (ys : List ℕ). value_at ys (place_of (length fs - 1 - i))) (sym is.product) ∙ z)
    (ap (symbol_at v) (sym at) ∙ symbol-index v i (omega (arith, ex.size))
    ∙ zero_at fs v i (scaled_zero g fs w p.size (erasures_vanish fs short)) (omega (arith, ex.size)) f)

pub none_by_erased : (e : ℕ) (fs : List Bool) (s t : ℕ → ℕ) (cs : List Gf) (l : ℕ) → length fs ≤ 255
    → AreModified e fs s t
    → IsShortest (2 * e - count_erased fs) t (entry cs) l → length cs ≡ 17 → e ≤ 16
    → (AvoidsErased (numbers (take (l + 1) cs)) fs → ⊥) → (w : List ℕ) → IsErasedPattern e fs s w → ⊥
none_by_erased e fs s t cs l short comb h len most ne w p = ne (avoids e fs s t cs l short comb h len most w p)

-- ---- some

-- a pattern of the modified syndromes, with its locator, whose roots avoid the erased places, has no symbol at these
without_erased : (e : ℕ) (fs : List Bool) (t : ℕ → ℕ) (cs : List Gf) (l : ℕ) (v : List ℕ) → length fs ≤ 255
    → Explains e (2 * e - count_erased fs) (length fs) t v → IsLocatorOf cs l v
    → AvoidsErased (numbers (take (l + 1) cs)) fs → ZeroInside fs v
without_erased e fs t cs l v short ex is avoid = zero_inside fs v ex.size (λ i lt f.
    let at : length v - 1 - i ≡ length fs - 1 - i = ap (λ (n : ℕ). n - 1 - i) ex.size in
    elim (cases_eq (get_or v i 0) 0) [
      | inl z ↦ z
      | inr ne ↦ absurd (avoid i lt f
          (ap (λ (ys : List ℕ). value_at ys (place_of (length fs - 1 - i))) is.product
          ∙ symbol_has_root v (length fs - 1 - i) (omega (arith, ex.size)) (omega arith)
          (λ z. ne (sym (symbol-index v i (omega (arith, ex.size))) ∙ ap (symbol_at v) at ∙ z))))
    ])

-- the locator of the modified syndromes' pattern locates the wrong symbols outside of the erased places
locates_of : (e : ℕ) (fs : List Bool) (s : ℕ → ℕ) (cs : List Gf) (l : ℕ) (v : List ℕ) → IsLocatorOf cs l v
    → Found e fs s v → LocatesErased e fs s cs l
locates_of e fs s cs l v is full = (
  full.word,
  full.pattern,
  record {
    room = is.room;
    elements = is.elements;
    places = is.places ∙ sym full.places;
    product = is.product ∙ sym full.locator;
    beyond = is.beyond;
  },
)

pub some_erased : (e : ℕ) (fs : List Bool) (s t : ℕ → ℕ) (cs : List Gf) (l : ℕ) → length fs ≤ 255
    → count_erased fs ≤ 2 * e → AreModified e fs s t
    → IsShortest (2 * e - count_erased fs) t (entry cs) l → length cs ≡ 17 → e ≤ 16
    → ((k : ℕ) → s k < 256) → ((k : ℕ) → t k < 256)
    → length (roots_below (numbers (take (l + 1) cs)) (length fs)) ≡ l → AvoidsErased (numbers (take (l + 1) cs)) fs
    → LocatesErased e fs s cs l
some_erased e fs s t cs l short few comb h len most sl tl counted avoid =
    let found = exists_at_end e (2 * e - count_erased fs) (length fs) t cs l h short len (omega arith) tl counted in
    let is = located_at_end e (2 * e - count_erased fs) (length fs) t cs l h short len (omega arith) found.0 found.1 in
    locates_of e fs s cs l found.0 is
    (erased_exists e fs s t sl found.0 short few comb found.1
    (without_erased e fs t cs l found.0 short found.1 is avoid))
