-- What octets hold of a window is what a prefix of them holds that is long enough.
use Rattle.std.proofs.Common.{◌≡◌, ℕ, zero, suc, ◌+◌, ◌*◌, ◌≤◌, List, ◌∷◌, ◌++◌, length, take, drop, refl, ap, ◌∙◌, arith}
use Rattle.std.proofs.Math.Nat.{mul-suc}
use Rattle.std.proofs.lemmas.List.{get_or_append_left, drop-append-le, take-append-le, length-drop}
use Rattle.std.specs.Int.{w32, w64, from_be_bytes}
use Rattle.tm_conv.specs.declared.rates.Rate.{Rate}
use Rattle.tm_conv.specs.Path.{steps_size}
use Rattle.tm_cert_file.specs.Window.{steps_in, kept_in, start_in, metric_in, bits_in, soft_in, parts_in, numbers_in, columns_in, window_in, bits_end, soft_end, window_size}

pub from_be_bytes_4-prefix : (xs ys : List ℕ) → 4 ≤ length xs → from_be_bytes w32 (xs ++ ys) ≡ from_be_bytes w32 xs
from_be_bytes_4-prefix xs ys long = grind (arith, get_or_append_left)

from_be_bytes_8-prefix : (xs ys : List ℕ) → 8 ≤ length xs → from_be_bytes w64 (xs ++ ys) ≡ from_be_bytes w64 xs
from_be_bytes_8-prefix xs ys long = grind (arith, get_or_append_left)

pub steps_in-prefix : (xs ys : List ℕ) → 17 ≤ length xs → steps_in (xs ++ ys) ≡ steps_in xs
steps_in-prefix xs ys long = from_be_bytes_4-prefix xs ys (omega arith)

pub kept_in-prefix : (xs ys : List ℕ) → 17 ≤ length xs → kept_in (xs ++ ys) ≡ kept_in xs
kept_in-prefix xs ys long =
    ap (from_be_bytes w32) (drop-append-le 4 xs ys (omega arith))
    ∙ from_be_bytes_4-prefix (drop 4 xs) ys (omega (arith, length-drop 4 xs))

pub start_in-prefix : (xs ys : List ℕ) → 17 ≤ length xs → start_in (xs ++ ys) ≡ start_in xs
start_in-prefix xs ys long = get_or_append_left xs ys 0 8 (omega arith)

pub metric_in-prefix : (xs ys : List ℕ) → 17 ≤ length xs → metric_in (xs ++ ys) ≡ metric_in xs
metric_in-prefix xs ys long =
    ap (from_be_bytes w64) (drop-append-le 9 xs ys (omega arith))
    ∙ from_be_bytes_8-prefix (drop 9 xs) ys (omega (arith, length-drop 9 xs))

-- ---- with the steps given by an equation, so that no goal shows how they are read

pub part-prefix : (from count : ℕ) (xs ys : List ℕ) → from + count ≤ length xs
    → take count (drop from (xs ++ ys)) ≡ take count (drop from xs)
part-prefix from count xs ys long =
    ap (take count) (drop-append-le from xs ys (omega arith))
    ∙ take-append-le count (drop from xs) ys (omega (arith, length-drop from xs))

pub bits_in-prefix : (xs ys : List ℕ) → bits_end (steps_in xs) ≤ length xs → bits_in (xs ++ ys) ≡ bits_in xs
bits_in-prefix xs ys long =
    ap (λ v. take v (drop 17 (xs ++ ys))) (steps_in-prefix xs ys (omega arith))
    ∙ part-prefix 17 (steps_in xs) xs ys long

pub soft_in-prefix : (rate : Rate) (t : ℕ) (xs ys : List ℕ) → soft_end rate t (steps_in xs) ≤ length xs
    → soft_in rate t (xs ++ ys) ≡ soft_in rate t xs
soft_in-prefix rate t xs ys long =
    ap (λ v. take (steps_size rate t v) (drop (bits_end v) (xs ++ ys))) (steps_in-prefix xs ys (omega arith))
    ∙ part-prefix (bits_end (steps_in xs)) (steps_size rate t (steps_in xs)) xs ys long

pub parts_in-prefix : {A : Type 0} (read : List ℕ → A) (size count : ℕ) (xs ys : List ℕ)
    → ((us vs : List ℕ) → size ≤ length us → read (us ++ vs) ≡ read us) → size * count ≤ length xs
    → parts_in read size count (xs ++ ys) ≡ parts_in read size count xs
unfolding parts_in
parts_in-prefix read size zero xs ys same long = refl
parts_in-prefix read size (suc count) xs ys same long =
    let all : size + size * count ≤ length xs = omega (arith, mul-suc size count) in
    let first = same xs ys (omega arith) in
    let rest = ap (parts_in read size count) (drop-append-le size xs ys (omega arith))
    ∙ parts_in-prefix read size count (drop size xs) ys same (omega (arith, length-drop size xs)) in
    λ i. first i ∷ rest i

pub numbers_in-prefix : (count : ℕ) (xs ys : List ℕ) → 4 * count ≤ length xs
    → numbers_in count (xs ++ ys) ≡ numbers_in count xs
numbers_in-prefix count xs ys = parts_in-prefix (from_be_bytes w32) 4 count xs ys from_be_bytes_4-prefix

pub columns_in-prefix : (count : ℕ) (xs ys : List ℕ) → 256 * count ≤ length xs
    → columns_in count (xs ++ ys) ≡ columns_in count xs
columns_in-prefix count xs ys = parts_in-prefix (numbers_in 64) 256 count xs ys (numbers_in-prefix 64)

-- a whole window is the same whatever comes after it
pub window_in-prefix : (rate : Rate) (t : ℕ) (xs ys : List ℕ) → window_size rate t (steps_in xs) ≤ length xs
    → window_in rate t (xs ++ ys) ≡ window_in rate t xs
window_in-prefix rate t xs ys long =
    let n = steps_in xs in
    let end = soft_end rate t n in
    let steps = steps_in-prefix xs ys (omega arith) in
    let kept = kept_in-prefix xs ys (omega arith) in
    let start = start_in-prefix xs ys (omega arith) in
    let metric = metric_in-prefix xs ys (omega arith) in
    let bits = bits_in-prefix xs ys (omega arith) in
    let soft = soft_in-prefix rate t xs ys (omega arith) in
    let columns : columns_in (steps_in (xs ++ ys) + 1) (drop (soft_end rate t (steps_in (xs ++ ys))) (xs ++ ys))
    ≡ columns_in (n + 1) (drop end xs)
    = ap (λ v. columns_in (v + 1) (drop (soft_end rate t v) (xs ++ ys))) steps
    ∙ ap (columns_in (n + 1)) (drop-append-le end xs ys (omega arith))
    ∙ columns_in-prefix (n + 1) (drop end xs) ys (omega (arith, length-drop end xs)) in
    λ i. record {
      steps = steps i;
      kept = kept i;
      start = start i;
      metric = metric i;
      bits = bits i;
      octets = soft i;
      columns = columns i;
    }
