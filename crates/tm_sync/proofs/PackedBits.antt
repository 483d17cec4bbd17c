-- Bits of octets, from any one of them on.
use Rattle.std.proofs.Common.{◌≡◌, ℕ, zero, suc, ◌+◌, ◌-◌, ◌*◌, ◌/◌, ◌%◌, ◌^◌, ◌<◌, ◌≤◌, Bool, List, [], ◌∷◌, ◌++◌, length, take, drop, get_or, refl, sym, ap, ◌∙◌, arith, append_assoc, length-drop}
use Rattle.std.specs.List.{copy_within}
use Rattle.std.proofs.Math.Seq.{take-add, take-paste}
use Rattle.std.proofs.lemmas.List.{append-nil, take_at, drop_at, take-append-le, drop-append-le, take-take, drop-take, drop-drop, take_more, drop_more, length-take-le}
use Rattle.tm_base.specs.Bits.{low_bits, bits_of, bits_of_octet}
use Rattle.tm_base.proofs.Packing.{length-low_bits, length-bits_of, bits_of-append, bits_of-take, bits_of-drop}
use Rattle.tm_base.proofs.LowBits.{low_bits-split, low_bits-same}

-- ---- parts of lists
-- the first items of a list are those of its own first
pub take-append-take : {X : Type 0} (prefix xs : List X) (n most : ℕ) → n ≤ most
    → take n (prefix ++ take most xs) ≡ take n (prefix ++ xs)
take-append-take [] xs n most few = take-take n most xs few
take-append-take (x ∷ prefix) xs zero most few = refl
take-append-take (x ∷ prefix) xs (suc n) most few = ap (λ l. x ∷ l)
    (take-append-take prefix xs n most (omega arith))

-- a part of the first items
pub part-take : {X : Type 0} (xs : List X) (at count n : ℕ) → at + count ≤ n
    → take count (drop at (take n xs)) ≡ take count (drop at xs)
part-take xs at count n within =
    let is : n ≡ at + (n - at) = omega arith in
    ap (λ n. take count (drop at (take n xs))) is
    ∙ ap (take count) (drop-take at (n - at) xs)
    ∙ take-take count (n - at) (drop at xs) (omega arith)

-- ---- the lowest bits of a number
pub drop-low_bits : (high low number : ℕ) → drop high (low_bits (high + low) number)
    ≡ low_bits low number
drop-low_bits high low number =
    ap (drop high) (low_bits-split high low number)
    ∙ drop_at (low_bits high (number / 2 ^ low)) (low_bits low number) high
    (length-low_bits high (number / 2 ^ low))

pub take-low_bits : (high low number : ℕ) → take high (low_bits (high + low) number)
    ≡ low_bits high (number / 2 ^ low)
take-low_bits high low number =
    ap (take high) (low_bits-split high low number)
    ∙ take_at (low_bits high (number / 2 ^ low)) (low_bits low number) high
    (length-low_bits high (number / 2 ^ low))

-- one octet and the next, as a number
pub low_bits-octet : (count octet next : ℕ) → next < 256
    → low_bits (count + 8) (octet * 256 + next) ≡ low_bits count octet ++ bits_of_octet next
low_bits-octet count octet next small =
    let high : (octet * 256 + next) / 2 ^ 8 ≡ octet = omega arith in
    low_bits-split count 8 (octet * 256 + next)
    ∙ (λ i. low_bits count (high i) ++ low_bits-same 8 (octet * 256 + next) next (omega arith) i)

-- the lowest bits of an octet and the next octet are an octet and the lowest bits of the next
pub joined-bits : (count octet next : ℕ) → count ≤ 8 → next < 256
    → low_bits count octet ++ bits_of_octet next
    ≡ bits_of_octet ((octet * 256 + next) / 2 ^ count % 256) ++ low_bits count next
joined-bits count octet next most small =
    let number : ℕ = octet * 256 + next in
    let same : count + 8 ≡ 8 + count = omega arith in
    let less : 8 - count + count ≡ 8 = omega arith in
    let lowest : low_bits count number ≡ low_bits count next =
    sym (drop-low_bits (8 - count) count number)
    ∙ ap (drop (8 - count)) (ap (λ n. low_bits n number) less
    ∙ low_bits-same 8 number next (omega arith)
    ∙ ap (λ n. low_bits n next) (sym less))
    ∙ drop-low_bits (8 - count) count next in
    sym (low_bits-octet count octet next small) ∙ ap (λ n. low_bits n number) same
    ∙ low_bits-split 8 count number
    ∙ (λ i. low_bits-same 8 (number / 2 ^ count) (number / 2 ^ count % 256)
    (omega arith) i ++ lowest i)

-- so the first of the bits of the octet, where they end with it
pub joined-first : (count octet result : ℕ) → count ≤ 8
    → low_bits count octet ++ bits_of_octet 0 ≡ bits_of_octet result ++ low_bits count 0
    → take count (bits_of_octet result) ≡ low_bits count octet
joined-first count octet result most is =
    let size = length-low_bits 8 result in
    sym (take-append-le count (bits_of_octet result) (low_bits count 0) (omega arith))
    ∙ ap (take count) (sym is)
    ∙ take_at (low_bits count octet) (bits_of_octet 0) count (length-low_bits count octet)

-- 32 of 40 bits
pub window-bits : (at number : ℕ) → at ≤ 8 → take 32 (drop at (low_bits 40 number))
    ≡ low_bits 32 (number / 2 ^ (8 - at))
window-bits at number most =
    let all : 40 ≡ at + (32 + (8 - at)) = omega arith in
    ap (λ n. take 32 (drop at (low_bits n number))) all
    ∙ ap (take 32) (drop-low_bits at (32 + (8 - at)) number)
    ∙ take-low_bits 32 (8 - at) number

-- ---- octets in a list
-- the first of the bits of an octet
pub octet-first : (count octet : ℕ) → count ≤ 8 → take count (bits_of_octet octet)
    ≡ low_bits count (octet / 2 ^ (8 - count))
octet-first count octet most =
    let all : 8 ≡ count + (8 - count) = omega arith in
    ap (λ n. take count (low_bits n octet)) all ∙ take-low_bits count (8 - count) octet

-- the bits up to one of an octet, and from it on
pub bits-up : (octets : List ℕ) (at count : ℕ) → count ≤ 8 → at < length octets
    → take (8 * at + count) (bits_of octets)
    ≡ bits_of (take at octets) ++ take count (bits_of_octet (get_or octets at 0))
bits-up octets at count most within =
    let octet : ℕ = get_or octets at 0 in
    let size = length-low_bits 8 octet in
    take-add (8 * at) count (bits_of octets)
    ∙ (λ i. sym (bits_of-take at octets) i ++ take count (sym (bits_of-drop at octets) i))
    ∙ ap (λ l. bits_of (take at octets) ++ take count (bits_of l)) (drop_more octets at 0 within)
    ∙ ap (λ l. bits_of (take at octets) ++ l)
    (take-append-le count (bits_of_octet octet) (bits_of (drop (at + 1) octets)) (omega arith))

pub bits-from : (octets : List ℕ) (at count : ℕ) → count ≤ 8 → at < length octets
    → drop (8 * at + count) (bits_of octets)
    ≡ low_bits (8 - count) (get_or octets at 0) ++ bits_of (drop (at + 1) octets)
bits-from octets at count most within =
    let octet : ℕ = get_or octets at 0 in
    let rest : List Bool = bits_of (drop (at + 1) octets) in
    let all : 8 ≡ count + (8 - count) = omega arith in
    let size = length-low_bits 8 octet in
    sym (drop-drop count (8 * at) (bits_of octets))
    ∙ ap (drop count) (sym (bits_of-drop at octets) ∙ ap bits_of (drop_more octets at 0 within))
    ∙ drop-append-le count (bits_of_octet octet) rest (omega arith)
    ∙ ap (λ l. l ++ rest) (ap (λ n. drop count (low_bits n octet)) all
    ∙ drop-low_bits count (8 - count) octet)

pub bits-from-whole : (octets : List ℕ) (at : ℕ) → at % 8 ≡ 0
    → drop at (bits_of octets) ≡ bits_of (drop (at / 8) octets)
bits-from-whole octets at whole =
    let is : at ≡ 8 * (at / 8) = omega arith in
    ap (λ n. drop n (bits_of octets)) is ∙ sym (bits_of-drop (at / 8) octets)

-- the bits of the room from one on, up to another
pub length-part : (octets : List ℕ) (from to : ℕ) → to ≤ 8 * length octets
    → length (drop from (take to (bits_of octets))) ≡ to - from
length-part octets from to within =
    let all = length-bits_of octets in
    let few : length (take to (bits_of octets)) ≡ to = length-take-le to (bits_of octets)
    (omega arith) in
    length-drop from (take to (bits_of octets)) ∙ ap (λ n. n - from) few

pub length-from : (octets : List ℕ) (from : ℕ) → length (drop from (bits_of octets))
    ≡ 8 * length octets - from
length-from octets from = length-drop from (bits_of octets)
    ∙ ap (λ n. n - from) (length-bits_of octets)

-- a part of them
pub part-of : (octets : List ℕ) (from to at count : ℕ) → from + at + count ≤ to
    → take count (drop (from + at) (bits_of octets))
    ≡ take count (drop at (drop from (take to (bits_of octets))))
part-of octets from to at count within =
    sym (ap (take count) (drop-drop at from (take to (bits_of octets)))
    ∙ part-take (bits_of octets) (from + at) count to within)

-- they stay what they are where whole octets before them go
pub moved-bits : (octets moved : List ℕ) (first end from to : ℕ) → 8 * first ≤ from → from ≤ to
    → to ≤ 8 * end → end ≤ length octets → moved ≡ copy_within octets first end 0
    → drop (from - 8 * first) (take (to - 8 * first) (bits_of moved))
    ≡ drop from (take to (bits_of octets))
moved-bits octets moved first end from to low some high within is =
    let size = length-drop first octets in
    let count : ℕ = end - first in
    let whole : 0 + count ≡ count = omega arith in
    let all : 8 * first + (to - 8 * first) ≡ to = omega arith in
    let begin : 8 * first + (from - 8 * first) ≡ from = omega arith in
    let start : take count moved ≡ take count (drop first octets) =
    ap (take count) is ∙ ap (λ n. take n (copy_within octets first end 0)) (sym whole)
    ∙ take-paste octets 0 (drop first octets) count (omega arith) (omega arith) in
    let same : take (to - 8 * first) (bits_of moved)
    ≡ take (to - 8 * first) (drop (8 * first) (bits_of octets)) =
    sym (take-take (to - 8 * first) (8 * count) (bits_of moved) (omega arith))
    ∙ ap (take (to - 8 * first)) (sym (bits_of-take count moved) ∙ ap bits_of start
    ∙ bits_of-take count (drop first octets))
    ∙ take-take (to - 8 * first) (8 * count) (bits_of (drop first octets)) (omega arith)
    ∙ ap (take (to - 8 * first)) (bits_of-drop first octets) in
    ap (drop (from - 8 * first)) (same
    ∙ sym (drop-take (8 * first) (to - 8 * first) (bits_of octets))
    ∙ ap (λ n. drop (8 * first) (take n (bits_of octets))) all)
    ∙ drop-drop (from - 8 * first) (8 * first) (take to (bits_of octets))
    ∙ ap (λ n. drop n (take to (bits_of octets))) begin

-- ---- the 32 bits of four octets
pub first-four : (octets : List ℕ) → 4 ≤ length octets
    → take 4 octets ≡ get_or octets 0 0 ∷ get_or octets 1 0 ∷ get_or octets 2 0 ∷ get_or octets 3 0
    ∷ []
first-four [] long = absurd (omega arith)
first-four (a ∷ []) long = absurd (omega arith)
first-four (a ∷ b ∷ []) long = absurd (omega arith)
first-four (a ∷ b ∷ c ∷ []) long = absurd (omega arith)
first-four (a ∷ b ∷ c ∷ d ∷ octets) long = refl

pub four-octets : (a b c d : ℕ) → b < 256 → c < 256 → d < 256
    → low_bits 32 (((a * 256 + b) * 256 + c) * 256 + d) ≡ bits_of (a ∷ b ∷ c ∷ d ∷ [])
four-octets a b c d small-b small-c small-d =
    low_bits-octet 24 ((a * 256 + b) * 256 + c) d small-d
    ∙ ap (λ l. l ++ bits_of_octet d) (low_bits-octet 16 (a * 256 + b) c small-c
    ∙ ap (λ l. l ++ bits_of_octet c) (low_bits-octet 8 a b small-b))
    ∙ simp (append_assoc, append-nil)

-- ---- the 40 bits of five octets
pub five-octets : (octets : List ℕ) (word : ℕ) → 4 < length octets → get_or octets 4 0 < 256
    → low_bits 32 word ≡ bits_of (take 4 octets)
    → low_bits 40 (word * 256 + get_or octets 4 0) ≡ bits_of (take 5 octets)
five-octets octets word long small is =
    let octet : ℕ = get_or octets 4 0 in
    let next : bits_of (octet ∷ []) ≡ bits_of_octet octet = append-nil (bits_of_octet octet) in
    low_bits-octet 32 word octet small
    ∙ (λ i. is i ++ sym next i)
    ∙ sym (bits_of-append (take 4 octets) (octet ∷ []))
    ∙ ap bits_of (sym (take_more octets 4 0 long))

-- 32 bits of the first five octets
pub word-bits : (octets : List ℕ) (number at : ℕ) → at ≤ 8
    → low_bits 40 number ≡ bits_of (take 5 octets)
    → take 32 (drop at (bits_of octets)) ≡ low_bits 32 (number / 2 ^ (8 - at))
word-bits octets number at most is =
    sym (part-take (bits_of octets) at 32 40 (omega arith))
    ∙ ap (λ l. take 32 (drop at l)) (sym (bits_of-take 5 octets) ∙ sym is)
    ∙ window-bits at number most

-- the last 32 of 40 bits are those of the next four octets
pub next-word : (octets : List ℕ) (number : ℕ) → low_bits 40 number ≡ bits_of (take 5 octets)
    → low_bits 32 (number % 2 ^ 32) ≡ bits_of (take 4 (drop 1 octets))
next-word octets number is =
    low_bits-same 32 (number % 2 ^ 32) number (omega arith)
    ∙ sym (drop-low_bits 8 32 number)
    ∙ ap (drop 8) is
    ∙ sym (bits_of-drop 1 (take 5 octets))
    ∙ ap bits_of (drop-take 1 4 octets)
