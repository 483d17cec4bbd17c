-- What the recurrence says at its end: the locator of the one pattern, or that there is none.
use Rattle.std.proofs.Common.{◌≡◌, ◌≢◌, ◌<◌, ◌≤◌, ◌+◌, ◌*◌, ℕ, zero, suc, List, [], ◌∷◌, length, take, arith, ap, sym, ◌∙◌, refl, inl, inr, add-one}
use Rattle.std.proofs.lemmas.Bool.{cases_lt}
use Rattle.std.proofs.lemmas.Bool.Decides.{eqb_tells}
use Rattle.tm_gf256.specs.declared.Gf.{Gf}
use Rattle.tm_gf256.specs.Poly.{entry, numbers, value_at}
use Rattle.tm_rs_code.specs.Code.{place_of}
use Rattle.tm_rs_code.specs.Pattern.{Explains, IsPattern, locator_of, roots_below}
use Rattle.tm_rs_code.specs.Recurrence.{listing}
use Rattle.tm_rs_code.proofs.Corrections.{explained, explains}
use Rattle.tm_rs_code.proofs.Locator.{is_locator}
use Rattle.tm_rs_code.proofs.Roots.{pattern_exists}
use Rattle.tm_rs_code.proofs.ErasedPlaces.{count_of_roots}
use Rattle.tm_rs.specs.Locator.{IsLocatorOf, Locates}
use Rattle.tm_rs.specs.State.{IsShortest, Unexplained}
use Rattle.tm_rs.proofs.Transitions.{entry_past}

-- ---- lists

listing-cons : (y : Gf) (ys : List Gf) (i n : ℕ) → listing (entry (y ∷ ys)) (suc i) n ≡ listing (entry ys) i n
listing-cons y ys i zero = refl
listing-cons y ys i (suc n) = ap (λ (zs : List ℕ). entry ys i ∷ zs) (listing-cons y ys (suc i) n)

pub listing-take : (ys : List Gf) (n : ℕ) → n ≤ length ys → listing (entry ys) 0 n ≡ numbers (take n ys)
listing-take ys zero h = refl
listing-take [] (suc n) h = absurd (omega arith)
listing-take (y ∷ ys) (suc n) h =
    ap (λ (zs : List ℕ). y.0 ∷ zs) (listing-cons y ys 0 n ∙ listing-take ys n (omega arith))

pub elements_of : (ys : List Gf) → ((k : ℕ) → k < length ys → entry ys k < 256) → (k : ℕ) → entry ys k < 256
elements_of ys h k = elim (cases_lt k (length ys)) [ inl lt ↦ h k lt | inr ge ↦ rw (entry_past ys k ge) (omega arith) ]

-- the number of roots below n
pub same_roots : (cs : List Gf) (l n m : ℕ) → n ≡ m → length (roots_below (numbers (take (l + 1) cs)) n)
    ≡ length (roots_below (numbers (take (l + 1) cs)) m)
same_roots cs l n m e = ap (λ (k : ℕ). length (roots_below (numbers (take (l + 1) cs)) k)) e

pub one_more_root : (p : List ℕ) (n : ℕ) → value_at p (place_of n) ≡ 0
    → length (roots_below p (suc n)) ≡ suc (length (roots_below p n))
one_more_root p n h = elim (eqb_tells (value_at p (place_of n)) 0) [ inl t ↦ rw t.0 refl | inr t ↦ absurd (t.1 h) ]

pub no_more_root : (p : List ℕ) (n : ℕ) → value_at p (place_of n) ≢ 0
    → length (roots_below p (suc n)) ≡ length (roots_below p n)
no_more_root p n h = elim (eqb_tells (value_at p (place_of n)) 0) [ inl t ↦ absurd (h t.1) | inr t ↦ rw t.0 refl ]

-- ---- the end

pub listed : (cs : List Gf) (l : ℕ) → l < length cs → listing (entry cs) 0 (suc l) ≡ numbers (take (l + 1) cs)
listed cs l h = ap (listing (entry cs) 0) (sym (add-one l)) ∙ listing-take cs (l + 1) (omega arith)

pub exists_at_end : (e count n : ℕ) (s : ℕ → ℕ) (cs : List Gf) (l : ℕ) → IsShortest count s (entry cs) l → n ≤ 255
    → length cs ≡ 17 → count ≤ 32
    → ((k : ℕ) → s k < 256) → length (roots_below (numbers (take (l + 1) cs)) n) ≡ l → (w : List ℕ)
    × Explains e count n s w
exists_at_end e count n s cs l h small len most elements counted =
    pattern_exists e count n s elements small (entry cs) h.elements l h.generates h.few
    (ap (λ (ys : List ℕ). length (roots_below ys n)) (listed cs l (omega (arith, h.few))) ∙ counted)

pub located_at_end : (e count n : ℕ) (s : ℕ → ℕ) (cs : List Gf) (l : ℕ) → IsShortest count s (entry cs) l → n ≤ 255
    → length cs ≡ 17 → count ≤ 32
    → (w : List ℕ) → Explains e count n s w → IsLocatorOf cs l w
located_at_end e count n s cs l h small len most w p =
    let is = is_locator e count n s w p small (entry cs) h.elements l h.generates h.few (h.least e n small w p) in
    record {
      room = len;
      elements = h.elements;
      places = sym is.0;
      product = sym (listed cs l (omega (arith, h.few))) ∙ is.1;
      beyond = λ i lt. h.generates.beyond i lt;
    }

-- too few roots below n
pub none_at_end : (e count n : ℕ) (s : ℕ → ℕ) (cs : List Gf) (l : ℕ) → IsShortest count s (entry cs) l → n ≤ 255
    → length cs ≡ 17 → count ≤ 32
    → length (roots_below (numbers (take (l + 1) cs)) n) ≢ l → (w : List ℕ) → Explains e count n s w → ⊥
none_at_end e count n s cs l h small len most ne w p =
    let is = located_at_end e count n s cs l h small len most w p in
    ne (ap (λ (ys : List ℕ). length (roots_below ys n)) is.product
    ∙ ap (λ (k : ℕ). length (roots_below (locator_of w) k)) (sym p.size)
    ∙ count_of_roots w (omega (arith, p.size)) ∙ sym is.places)

-- ---- without erasures

pub no_pattern : (e n : ℕ) (s : ℕ → ℕ) → Unexplained (2 * e) s → n ≤ 255 → (w : List ℕ) → IsPattern e n s w → ⊥
no_pattern e n s none small w p = none e n small w (explains e n s w p)

pub no_pattern_at_end : (e n : ℕ) (s : ℕ → ℕ) (cs : List Gf) (l : ℕ) → IsShortest (2 * e) s (entry cs) l → n ≤ 255
    → length cs ≡ 17 → e ≤ 16
    → length (roots_below (numbers (take (l + 1) cs)) n) ≢ l → (w : List ℕ) → IsPattern e n s w → ⊥
no_pattern_at_end e n s cs l h small len most ne w p =
    none_at_end e (2 * e) n s cs l h small len (omega arith) ne w (explains e n s w p)

pub locates_at_end : (e n : ℕ) (s : ℕ → ℕ) (cs : List Gf) (l : ℕ) → IsShortest (2 * e) s (entry cs) l → n ≤ 255
    → length cs ≡ 17 → e ≤ 16
    → ((k : ℕ) → s k < 256) → length (roots_below (numbers (take (l + 1) cs)) n) ≡ l → Locates e n s cs l
locates_at_end e n s cs l h small len most elements counted =
    let found = exists_at_end e (2 * e) n s cs l h small len (omega arith) elements counted in (
      found.0,
      explained e n s found.0 found.1,
      located_at_end e (2 * e) n s cs l h small len
          (omega arith) found.0 found.1,
    )
