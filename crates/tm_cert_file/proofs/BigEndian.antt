-- Numbers and columns as octets, and back.
use Rattle.std.proofs.Common.{◌≡◌, ℕ, zero, suc, ◌+◌, ◌*◌, ◌<◌, ◌≤◌, ◌^◌, List, [], ◌∷◌, ◌++◌, length, take, drop, set, refl, sym, ap, ◌∙◌, arith}
use Rattle.std.proofs.Math.Nat.{mul-suc}
use Rattle.std.proofs.lemmas.List.{drop-drop, get_or-take, take_more_set, take-append-drop, length-take-le, length-drop}
use Rattle.std.proofs.lemmas.List.Elements.{All-head, All-tail}
use Rattle.std.proofs.lemmas.Nat.{from_be_bytes-to_be_bytes_4}
use Rattle.std.specs.Prelude.{All}
use Rattle.std.specs.Int.{w32, from_be_bytes}
use Rattle.tm_cert_file.specs.Window.{column_octets, parts_in, numbers_in, columns_in}
use Rattle.tm_cert_file.proofs.Prefixes.{numbers_in-prefix}

parts_in-push : {A : Type 0} (read : List ℕ → A) (size count : ℕ) (octets : List ℕ)
    → parts_in read size (suc count) octets ≡ parts_in read size count octets ++ read (drop (size * count) octets) ∷ []
unfolding parts_in
parts_in-push read size zero octets = let none : 0 ≡ size * 0 = omega arith in ap (λ k. read (drop k octets) ∷ []) none
parts_in-push read size (suc count) octets =
    let place : size + size * count ≡ size * suc count = omega (arith, mul-suc size count) in
    ap (λ v. read octets ∷ v) (parts_in-push read size count (drop size octets))
    ∙ ap (λ v. read octets ∷ (parts_in read size count (drop size octets) ++ read v ∷ []))
    (drop-drop (size * count) size octets ∙ ap (λ k. drop k octets) place)

pub length-columns_in : (count : ℕ) (octets : List ℕ) → length (columns_in count octets) ≡ count
unfolding parts_in
length-columns_in zero octets = refl
length-columns_in (suc count) octets = ap suc (length-columns_in count (drop 256 octets))

-- the numbers of a column's octets are those of the column
pub numbers_in-column_octets : (column rest : List ℕ) → All (λ n. n < 2 ^ 32) column
    → numbers_in (length column) (column_octets column ++ rest) ≡ column
unfolding parts_in
numbers_in-column_octets [] rest small = refl
numbers_in-column_octets (n ∷ column) rest small =
    let first = from_be_bytes-to_be_bytes_4 n (All-head (λ n. n < 2 ^ 32) n column small) in
    let others = numbers_in-column_octets column rest (All-tail (λ n. n < 2 ^ 32) n column small) in
    λ i. first i ∷ others i

-- ---- what is read of a part that is long enough

pub from_be_bytes_4-take : (n : ℕ) (xs : List ℕ) → 4 ≤ n → from_be_bytes w32 (take n xs) ≡ from_be_bytes w32 xs
from_be_bytes_4-take n xs long = grind (arith, get_or-take)

numbers_in-take : (xs : List ℕ) → 256 ≤ length xs → numbers_in 64 (take 256 xs) ≡ numbers_in 64 xs
numbers_in-take xs fits =
    sym (numbers_in-prefix 64 (take 256 xs) (drop 256 xs) (omega (arith, length-take-le 256 xs fits)))
    ∙ ap (numbers_in 64) (take-append-drop 256 xs)

-- one more number of a column
pub column_more : (s n v : ℕ) (column octets : List ℕ) → length column ≡ 64 → s < 64 → 4 ≤ n
    → v ≡ from_be_bytes w32 (take n (drop (4 * s) octets))
    → take s column ≡ numbers_in s octets → take (s + 1) (set column s v) ≡ numbers_in (s + 1) octets
column_more s n v column octets long below four is prefix =
    let place : suc s ≡ s + 1 = omega arith in
    take_more_set column s v (omega arith)
    ∙ ap (λ w. w ++ v ∷ []) prefix
    ∙ ap (λ w. numbers_in s octets ++ w ∷ []) (is ∙ from_be_bytes_4-take n (drop (4 * s) octets) four)
    ∙ sym (parts_in-push (from_be_bytes w32) 4 s octets) ∙ ap (λ k. numbers_in k octets) place

-- one more column, after those from a place on
pub columns_more : (place at n k : ℕ) (column octets : List ℕ) → at ≡ place + 256 * k → n ≡ 256
    → at + n ≤ length octets → column ≡ numbers_in 64 (take n (drop at octets))
    → columns_in k (drop place octets) ++ column ∷ [] ≡ columns_in (k + 1) (drop place octets)
columns_more place at n k column octets is size fits column_is =
    let next : suc k ≡ k + 1 = omega arith in
    ap (λ w. columns_in k (drop place octets) ++ w ∷ []) (column_is
    ∙ ap (λ v. numbers_in 64 (take v (drop at octets))) size
    ∙ numbers_in-take (drop at octets) (omega (arith, length-drop at octets))
    ∙ ap (numbers_in 64) (ap (λ v. drop v octets) is ∙ sym (drop-drop (256 * k) place octets)))
    ∙ sym (parts_in-push (numbers_in 64) 256 k (drop place octets)) ∙ ap (λ m. columns_in m (drop place octets)) next
