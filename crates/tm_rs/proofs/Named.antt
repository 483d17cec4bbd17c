-- The places that are erased or roots, one after another, and the errors at erased places.
use Rattle.std.proofs.Common.{◌≡◌, ◌<◌, ◌≤◌, ◌+◌, ◌-◌, ◌*◌, ℕ, zero, suc, List, [], ◌∷◌, length, drop, take, get_or, arith, ap, sym, ◌∙◌, refl, subst, add-one, eqb, cond, inl, inr, true, false, Bool, not, ◌&&◌}
use Rattle.std.proofs.Math.Nat.{mul-le-mul}
use Rattle.tm_gf256.specs.declared.Gf.{Gf}
use Rattle.tm_gf256.specs.Poly.{entry, numbers, value_at}
use Rattle.tm_rs_code.specs.Code.{IsStrength, place_of, weight}
use Rattle.tm_rs_code.specs.Erasures.{count_erased, inside, marks, places_named}
use Rattle.tm_rs_code.specs.ErrorValues.{IsLocated, symbol_at}
use Rattle.tm_rs_code.specs.Pattern.{locator_of, times_linear}
use Rattle.tm_rs_code.specs.Recurrence.{listing}
use Rattle.tm_rs_code.proofs.Corrections.{symbol-index}
use Rattle.tm_rs_code.proofs.ErasedWords.{length-places_named, located_erased}
use Rattle.tm_rs_code.proofs.ErasedPlaces.{length-marks}
use Rattle.tm_rs.specs.Locator.{LocatesErased}
use Rattle.tm_rs.proofs.Erasures.{drop_step, length-drop, none_dropped}
use Rattle.tm_rs.proofs.Products.{linear-swap}
use Rattle.tm_rs.proofs.Endings.{listed}

-- ---- from the locator of the erased places

-- a polynomial times a factor for each place that is not erased and a root of g
pub with_roots : List ℕ → List Bool → List ℕ → List ℕ
with_roots g [] q = q
with_roots g (f ∷ fs) q =
    cond (not f && eqb (value_at g (place_of (length fs))) 0)
    (times_linear (place_of (length fs)) (with_roots g fs q)) (with_roots g fs q)

-- the number of these
pub roots : List ℕ → List Bool → ℕ
roots g [] = 0
roots g (f ∷ fs) = cond (not f && eqb (value_at g (place_of (length fs))) 0) 1 0 + roots g fs

roots-swap : (x : ℕ) (g : List ℕ) (fs : List Bool) (q : List ℕ)
    → with_roots g fs (times_linear x q) ≡ times_linear x (with_roots g fs q)
unfolding with_roots
roots-swap x g [] q = refl
roots-swap x g (f ∷ fs) q =
    by_root (not f && eqb (value_at g (place_of (length fs))) 0) (place_of (length fs)) (roots-swap x g fs q)
  where
    by_root : (b : Bool) (y : ℕ) → with_roots g fs (times_linear x q) ≡ times_linear x (with_roots g fs q)
        → cond b (times_linear y (with_roots g fs (times_linear x q))) (with_roots g fs (times_linear x q))
        ≡ times_linear x (cond b (times_linear y (with_roots g fs q)) (with_roots g fs q))
    by_root true y h = ap (times_linear y) h ∙ linear-swap y x (with_roots g fs q)
    by_root false y h = h

pub named-with : (g : List ℕ) (fs : List Bool) → locator_of (places_named g fs)
    ≡ with_roots g fs (locator_of (marks fs))
unfolding with_roots
named-with g [] = refl
named-with g (true ∷ fs) =
    ap (λ n. times_linear (place_of n) (locator_of (places_named g fs))) (length-places_named g fs)
    ∙ ap (times_linear (place_of (length fs))) (named-with g fs)
    ∙ sym (roots-swap (place_of (length fs)) g fs (locator_of (marks fs)))
    ∙ ap (λ n. with_roots g fs (times_linear (place_of n) (locator_of (marks fs)))) (sym (length-marks fs))
named-with g (false ∷ fs) = by_root (eqb (value_at g (place_of (length fs))) 0) (named-with g fs)
  where
    by_root : (b : Bool) → locator_of (places_named g fs) ≡ with_roots g fs (locator_of (marks fs))
        → locator_of (cond b 1 0 ∷ places_named g fs) ≡ cond b
        (times_linear (place_of (length fs)) (with_roots g fs (locator_of (marks fs))))
        (with_roots g fs (locator_of (marks fs)))
    by_root true h =
        ap (λ n. times_linear (place_of n) (locator_of (places_named g fs))) (length-places_named g fs)
        ∙ ap (times_linear (place_of (length fs))) h
    by_root false h = h

pub weight-named : (g : List ℕ) (fs : List Bool) → weight (places_named g fs) ≡ count_erased fs + roots g fs
unfolding roots
weight-named g [] = refl
weight-named g (true ∷ fs) = omega (arith, weight-named g fs)
weight-named g (false ∷ fs) = by_root (eqb (value_at g (place_of (length fs))) 0) (weight-named g fs)
  where
    by_root : (b : Bool) → weight (places_named g fs) ≡ count_erased fs + roots g fs
        → cond (eqb (cond b 1 0) 0) 0 1 + weight (places_named g fs) ≡ 0 + count_erased fs + (cond b 1 0 + roots g fs)
    by_root true h = omega (arith, h)
    by_root false h = omega (arith, h)

-- from place p to place p + 1
abbrev pub is_other : List ℕ → List Bool → ℕ → Bool
is_other g fs p = not (get_or fs (length fs - 1 - p) false) && eqb (value_at g (place_of p)) 0

after_next : (fs : List Bool) (p : ℕ) → p < length fs → drop (length fs - (p + 1)) fs
    ≡ get_or fs (length fs - 1 - p) false ∷ drop (length fs - p) fs
after_next fs p h =
    let at : length fs - (p + 1) ≡ length fs - 1 - p = omega arith in
    let after : suc (length fs - 1 - p) ≡ length fs - p = omega arith in
    ap (λ (j : ℕ). drop j fs) at ∙ drop_step fs (length fs - 1 - p) (omega arith)
    ∙ ap (λ (j : ℕ). get_or fs (length fs - 1 - p) false ∷ drop j fs) after

pub roots_next : (g : List ℕ) (fs : List Bool) (p : ℕ) (b : Bool) → p < length fs → is_other g fs p ≡ b
    → roots g (drop (length fs - (p + 1)) fs) ≡ cond b 1 0 + roots g (drop (length fs - p) fs)
unfolding roots
roots_next g fs p b h e =
    let left : length (drop (length fs - p) fs) ≡ p = omega (arith, length-drop fs (length fs - p) (omega arith)) in
    ap (roots g) (after_next fs p h)
    ∙ ap (λ (n : ℕ). cond (not (get_or fs (length fs - 1 - p) false) && eqb (value_at g (place_of n)) 0) 1 0 + roots g
    (drop (length fs - p) fs)) left
    ∙ ap (λ (c : Bool). cond c 1 0 + roots g (drop (length fs - p) fs)) e

pub with_next : (g : List ℕ) (fs : List Bool) (p : ℕ) (b : Bool) (q : List ℕ) → p < length fs → is_other g fs p ≡ b
    → with_roots g (drop (length fs - (p + 1)) fs) q ≡ cond b
    (times_linear (place_of p) (with_roots g (drop (length fs - p) fs) q))
    (with_roots g (drop (length fs - p) fs) q)
unfolding with_roots
with_next g fs p b q h e =
    let left : length (drop (length fs - p) fs) ≡ p = omega (arith, length-drop fs (length fs - p) (omega arith)) in
    let rest : List ℕ = with_roots g (drop (length fs - p) fs) q in
    ap (λ l. with_roots g l q) (after_next fs p h)
    ∙ ap (λ (n : ℕ). cond (not (get_or fs (length fs - 1 - p) false) && eqb (value_at g (place_of n)) 0)
    (times_linear (place_of n) rest) rest) left
    ∙ ap (λ (c : Bool). cond c (times_linear (place_of p) rest) rest) e

roots_drop : (g : List ℕ) (fs : List Bool) (j : ℕ) → roots g (drop j fs) ≤ roots g fs
unfolding roots
roots_drop g fs zero = omega arith
roots_drop g [] (suc j) = omega arith
roots_drop g (f ∷ fs) (suc j) = omega (arith, roots_drop g fs j)

pub degree_other : (g : List ℕ) (fs : List Bool) (p d count : ℕ) → p < length fs → count ≡ count_erased fs
    → d ≡ count + roots g (drop (length fs - p) fs)
    → is_other g fs p ≡ true → d + 1 ≤ weight (places_named g fs)
degree_other g fs p d count h c e is =
    omega (arith, c, e, weight-named g fs, roots_next g fs p true h is, roots_drop g fs (length fs - (p + 1)))

pub no_roots : (g : List ℕ) (fs : List Bool) → roots g (drop (length fs - 0) fs) ≡ 0
unfolding roots
no_roots g fs = ap (roots g) (none_dropped fs)

pub with_none : (g : List ℕ) (fs : List Bool) (q : List ℕ) → with_roots g (drop (length fs - 0) fs) q ≡ q
unfolding with_roots
with_none g fs q = ap (λ l. with_roots g l q) (none_dropped fs)

-- ---- errors at erased places

pub inside_step : (fs : List Bool) (ws : List ℕ) (j : ℕ) → j < length fs → length ws ≡ length fs
    → weight (inside (drop j fs) (drop j ws)) ≡ cond (eqb (cond (get_or fs j false) (get_or ws j 0) 0) 0) 0 1 + weight
    (inside (drop (suc j) fs) (drop (suc j) ws))
inside_step [] ws j h e = absurd (omega arith)
inside_step (f ∷ fs) [] j h e = absurd (omega arith)
inside_step (f ∷ fs) (w ∷ ws) zero h e = refl
inside_step (f ∷ fs) (w ∷ ws) (suc j) h e = inside_step fs ws j (omega arith) (omega arith)

pub inside_next : (fs : List Bool) (ws : List ℕ) (j r a t : ℕ) → j < length fs → length ws ≡ length fs
    → r ≡ cond (eqb (cond (get_or fs j false) (symbol_at ws (length fs - 1 - j)) 0) 0) 0 1
    → a + weight (inside (drop j fs) (drop j ws)) ≡ t → a + r + weight (inside (drop (j + 1) fs) (drop (j + 1) ws)) ≡ t
inside_next fs ws j r a t h e is sum =
    let same : symbol_at ws (length fs - 1 - j) ≡ get_or ws j 0 =
    ap (λ (n : ℕ). symbol_at ws (n - 1 - j)) (sym e) ∙ symbol-index ws j (omega arith) in
    let one : r ≡ cond (eqb (cond (get_or fs j false) (get_or ws j 0) 0) 0) 0 1 =
    is ∙ ap (λ (y : ℕ). cond (eqb (cond (get_or fs j false) y 0) 0) 0 1) same in
    omega (
      arith,
      one,
      sum,
      inside_step fs ws j h e,
      ap (λ (k : ℕ). weight (inside (drop k fs) (drop k ws)))
          (add-one j),
    )

pub one_at_most : (r x : ℕ) → r ≡ cond (eqb x 0) 0 1 → r ≤ 1
one_at_most r x e = go (eqb x 0) e
  where
    go : (b : Bool) → r ≡ cond b 0 1 → r ≤ 1
    go true e = omega arith
    go false e = omega arith

-- ---- the pattern

-- Where the locator of a pattern's other places was found, the places it names and the erased ones.
module _ (e : ℕ) (fs : List Bool) (s : ℕ → ℕ) (coefs : List Gf) (degree : ℕ) (short : length fs ≤ 255)
    (found : LocatesErased e fs s coefs degree) where
  abbrev pub all_named : List ℕ
  all_named = places_named (numbers (take (degree + 1) coefs)) fs

  all_located : IsLocated e s (locator_of all_named) all_named found.0
  all_located = located_erased e fs s (numbers (take (degree + 1) coefs)) found.0 short found.1 found.2.product

  pub named_few : weight all_named ≤ 2 * e
  named_few = all_located.few

  pub located_for : (e' : ℕ) (all : List Gf) (places : ℕ) → e' ≡ e → e ≤ 16 → length all ≡ 33
      → places ≡ weight all_named → listing (entry all) 0 (suc places) ≡ locator_of all_named
      → IsLocated e' s (numbers (take (places + 1) all)) all_named found.0
  located_for e' all places same most room count full =
      subst (λ (k : ℕ). IsLocated k s (numbers (take (places + 1) all)) all_named found.0) (sym same)
      (subst (λ (ls : List ℕ). IsLocated e s ls all_named found.0)
      (sym full ∙ listed all places (omega (arith, named_few))) all_located)

-- ---- how many steps

pub cost_more : (a b i k d : ℕ) → 2 * a + k ≡ 2 * i + d * (d + 1) → b ≡ a + (d + 1)
    → 2 * b + k ≡ 2 * i + (d + 1) * (d + 1 + 1)
cost_more a b i k d h l = grind arith

pub cost_as : (a b i k d d' : ℕ) → a ≡ b → d ≡ d' → 2 * b + k ≡ 2 * i + d' * (d' + 1) → 2 * a + k ≡ 2 * i + d * (d + 1)
cost_as a b i k d d' e f h = rw (e, f) h

-- a bound on the products counted from a to c: up to b for s erased places, then for the locator
-- of d places from theirs, where s and d are at most t
most : (t s d a b c : ℕ) → s ≤ t → d ≤ t → b ≤ a + (s * (s + 1) + (t - s) * (t + 4))
    → 2 * c + s * (s + 1) ≡ 2 * b + d * (d + 1)
    → 2 * c ≤ 2 * a + (2 * (t * (t + 1)) + 2 * (t * (t + 4)) + t * (t + 1))
most t s d a b c few places before whole =
    let erased : s * (s + 1) ≤ t * (t + 1) = mul-le-mul few (omega (arith, few)) in
    let left : (t - s) * (t + 4) ≤ t * (t + 4) = mul-le-mul (omega arith) (omega arith) in
    let all : d * (d + 1) ≤ t * (t + 1) = mul-le-mul places (omega (arith, places)) in
    omega (arith, erased, left, all, before, whole)

pub most_steps : (e s d a b c : ℕ) → IsStrength e → s ≤ 2 * e → d ≤ 2 * e
    → b ≤ a + (s * (s + 1) + (2 * e - s) * (2 * e + 4)) → 2 * c + s * (s + 1) ≡ 2 * b + d * (d + 1)
    → c ≤ a + (2 * e * (4 * e + 3) + 8 * e * e)
most_steps e s d a b c strength few places before whole = elim strength [
  | inl is ↦ at 16 is (λ h. omega (arith, h))
  | inr is ↦ at 8 is (λ h. omega (arith, h))
]
  where
    at : (n : ℕ) → e ≡ n
        → (2 * c ≤ 2 * a + (2 * (2 * n * (2 * n + 1)) + 2 * (2 * n * (2 * n + 4)) + 2 * n * (2 * n + 1))
        → c ≤ a + (2 * n * (4 * n + 3) + 8 * n * n))
        → c ≤ a + (2 * e * (4 * e + 3) + 8 * e * e)
    at n is enough =
        subst (λ m. c ≤ a + (2 * m * (4 * m + 3) + 8 * m * m)) (sym is)
        (enough (most (2 * n) s d a b c (subst (λ m. s ≤ 2 * m) is few) (subst (λ m. d ≤ 2 * m) is places)
        (subst (λ m. b ≤ a + (s * (s + 1) + (2 * m - s) * (2 * m + 4))) is before) whole))

pub least_steps : (s d b c m : ℕ) → s ≤ d → 2 * c + s * (s + 1) ≡ 2 * b + d * (d + 1) → m ≤ 2 * b → m ≤ 2 * c
least_steps s d b c m some whole before =
    let more : s * (s + 1) ≤ d * (d + 1) = mul-le-mul some (omega (arith, some)) in omega (arith, more, whole, before)
