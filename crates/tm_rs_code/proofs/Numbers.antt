-- Words of elements as words of numbers.
use Rattle.std.proofs.Common.{◌≡◌, ◌≢◌, ◌<◌, ◌+◌, ◌∙◌, ℕ, zero, suc, List, [], ◌∷◌, ◌++◌, length, take, refl, ap, sym, arith, inl, inr, eqb, cond}
use Rattle.std.specs.Prelude.{replicate}
use Rattle.std.proofs.lemmas.Bool.Decides.{eqb_tells}
use Rattle.tm_gf256.specs.declared.Gf.{Gf}
use Rattle.tm_gf256.specs.Poly.{entry, numbers}
use Rattle.tm_rs_code.specs.Code.{AreElements, distance}

pub entry-zeros : (n i : ℕ) → entry (replicate n (record { 0 = 0 })) i ≡ 0
entry-zeros zero i = refl
entry-zeros (suc n) zero = refl
entry-zeros (suc n) (suc i) = entry-zeros n i

-- elements whose entries are in range, as `see_range` says
pub AreElements-numbers : (xs : List Gf) → ((i : ℕ) → i < length xs → entry xs i < 256) → AreElements (numbers xs)
AreElements-numbers [] h = tt
AreElements-numbers (x ∷ xs) h = (h 0 (omega arith), AreElements-numbers xs (λ i lt. h (suc i) (omega arith)))

pub AreElements-replicate : (n : ℕ) → AreElements (replicate n 0)
AreElements-replicate zero = tt
AreElements-replicate (suc n) = (omega arith, AreElements-replicate n)

pub AreElements-append : (xs ys : List ℕ) → AreElements xs → AreElements ys → AreElements (xs ++ ys)
AreElements-append [] ys h l = l
AreElements-append (x ∷ xs) ys h l = (h.0, AreElements-append xs ys h.1 l)

pub AreElements-take : (n : ℕ) (xs : List ℕ) → AreElements xs → AreElements (take n xs)
AreElements-take zero xs h = tt
AreElements-take (suc n) [] h = tt
AreElements-take (suc n) (x ∷ xs) h = (h.0, AreElements-take n xs h.1)

pub AreElements-after : (xs ys : List ℕ) → AreElements (xs ++ ys) → AreElements ys
AreElements-after [] ys h = h
AreElements-after (x ∷ xs) ys h = AreElements-after xs ys h.1

-- one more place
distance_more : (xs ys : List Gf) (i : ℕ) → i < length xs → length xs ≡ length ys
    → distance (numbers (take (suc i) xs)) (numbers (take (suc i) ys))
    ≡ distance (numbers (take i xs)) (numbers (take i ys)) + cond (eqb (entry xs i) (entry ys i)) 0 1
distance_more [] ys i lt same = absurd (omega arith)
distance_more (x ∷ xs) [] i lt same = absurd (omega arith)
distance_more (x ∷ xs) (y ∷ ys) zero lt same = omega arith
distance_more (x ∷ xs) (y ∷ ys) (suc i) lt same = omega (arith, distance_more xs ys i (omega arith) (omega arith))

-- the distance of the first n places
prefix : (xs ys : List Gf) (n : ℕ) → ℕ
prefix xs ys n = distance (numbers (take n xs)) (numbers (take n ys))

pub distance_same : (xs ys : List Gf) (i x y : ℕ) → i < length xs → length xs ≡ length ys → x ≡ entry xs i
    → y ≡ entry ys i → x ≡ y
    → distance (numbers (take i xs)) (numbers (take i ys)) ≡ distance (numbers (take (i + 1) xs))
    (numbers (take (i + 1) ys))
unfolding prefix
distance_same xs ys i x y lt same ex ey e =
    let next : suc i ≡ i + 1 = omega arith in
    elim (eqb_tells (entry xs i) (entry ys i)) [
      | inl t ↦ let more =
          rw t.0 at (distance_more xs ys i lt same) in sym (more ∙ (omega arith)) ∙ ap (prefix xs ys) next
      | inr t ↦ absurd (t.1 (sym ex ∙ e ∙ ey))
    ]

pub distance_differs : (xs ys : List Gf) (i x y : ℕ) → i < length xs → length xs ≡ length ys → x ≡ entry xs i
    → y ≡ entry ys i → x ≢ y
    → distance (numbers (take i xs)) (numbers (take i ys)) + 1
    ≡ distance (numbers (take (i + 1) xs)) (numbers (take (i + 1) ys))
unfolding prefix
distance_differs xs ys i x y lt same ex ey ne =
    let next : suc i ≡ i + 1 = omega arith in
    elim (eqb_tells (entry xs i) (entry ys i)) [
      | inl t ↦ absurd (ne (ex ∙ t.1 ∙ sym ey))
      | inr t ↦ let more = rw t.0 at (distance_more xs ys i lt same) in sym more ∙ ap (prefix xs ys) next
    ]
