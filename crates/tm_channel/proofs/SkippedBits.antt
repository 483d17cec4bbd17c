-- Bits of octets, of which the first are skipped.
use Rattle.std.proofs.Common.{◌≡◌, ℕ, zero, suc, ◌-◌, ◌+◌, ◌*◌, ◌≤◌, List, [], ◌∷◌, ◌++◌, length, take, drop, min, sym, ap, ◌∙◌, arith, length-take-le, inl, inr}
use Rattle.std.proofs.lemmas.List.{drop_all}
use Rattle.std.proofs.lemmas.Bool.{cases_lt}
use Rattle.std.proofs.Math.Seq.{take-add}
use Rattle.tm_base.specs.Bits.{bits_of}
use Rattle.tm_base.proofs.Packing.{length-bits_of, bits_of-append}

-- they are not more than there are
pub drop-most : (skip : ℕ) (octets : List ℕ)
    → drop (min skip (8 * length octets)) (bits_of octets) ≡ drop skip (bits_of octets)
drop-most skip octets = elim (cases_lt (8 * length octets) skip) as
    (λ _. drop (min skip (8 * length octets)) (bits_of octets) ≡ drop skip (bits_of octets)) [
      | inl less ↦ drop_all (min skip (8 * length octets)) (bits_of octets) (omega (arith, less, length-bits_of octets))
          ∙ sym (drop_all skip (bits_of octets) (omega (arith, less, length-bits_of octets)))
      | inr least ↦ (let same : min skip (8 * length octets) ≡ skip = omega (arith, least)
          in ap (λ n. drop n (bits_of octets)) same)
    ]

drop-parts : {A : Type 0} (n : ℕ) (xs ys : List A) → drop n (xs ++ ys) ≡ drop n xs ++ drop (n - length xs) ys
drop-parts zero xs ys = let none : 0 ≡ 0 - length xs = omega arith in ap (λ k. xs ++ drop k ys) none
drop-parts (suc n) [] ys = let same : suc n ≡ suc n - 0 = omega arith in ap (λ k. drop k ys) same
drop-parts (suc n) (x ∷ xs) ys =
    let same : n - length xs ≡ suc n - length (x ∷ xs) = omega arith in
    drop-parts n xs ys ∙ ap (λ k. drop n xs ++ drop k ys) same

-- those of a piece more
pub skipped-next : (from done end : ℕ) (octets : List ℕ) → done ≤ end → done ≤ length octets
    → drop from (bits_of (take done octets)) ++ drop (min (from - 8 * done)
    (8 * length (take (end - done) (drop done octets)))) (bits_of (take (end - done) (drop done octets)))
    ≡ drop from (bits_of (take end octets))
skipped-next from done end octets rises within =
    let piece = take (end - done) (drop done octets) in
    let first = bits_of (take done octets) in
    let size : length first ≡ 8 * done = length-bits_of (take done octets)
    ∙ ap (λ n. 8 * n) (length-take-le done octets within) in
    let to : done + (end - done) ≡ end = omega (arith, rises) in
    ap (λ l. drop from first ++ l) (drop-most (from - 8 * done) piece)
    ∙ ap (λ n. drop from first ++ drop (from - n) (bits_of piece)) (sym size)
    ∙ sym (drop-parts from first (bits_of piece)) ∙ ap (drop from) (sym (bits_of-append (take done octets) piece))
    ∙ ap (λ l. drop from (bits_of l)) (sym (take-add done (end - done) octets))
    ∙ ap (λ n. drop from (bits_of (take n octets))) to
