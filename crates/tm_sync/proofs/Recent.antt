-- What the room holds of the bits, and the numbers that it and the last 32 bits give.
use Rattle.std.proofs.Common.{◌≡◌, ℕ, suc, ◌+◌, ◌-◌, ◌*◌, ◌/◌, ◌%◌, ◌^◌, ◌<◌, ◌≤◌, ◌==◌, Bool, true, false, cond, nat_le, List, [], ◌∷◌, ◌++◌, length, take, drop, get_or, sym, ap, ◌∙◌, subst, arith, Some, length-drop}
use Rattle.std.proofs.lemmas.List.{take-append-drop, get_or-drop}
use Rattle.std.proofs.lemmas.Bool.Decides.{nat_tests}
use Rattle.tm_base.specs.Bits.{bit_number, number_of}
use Rattle.tm_sync.specs.declared.found.Awaited.{Awaited}
use Rattle.tm_sync.specs.Searching.{Searching, IsRecent, from_of}
use Rattle.tm_sync.proofs.Numbers.{value_from, value-last, value-high, value-lt, number-value}

-- ---- no bit has to be held that was not given
recent-past : (room : List ℕ) (bits : List Bool) (from : ℕ) → length bits ≤ from → IsRecent room bits from
recent-past room bits from past = λ i low within. absurd (omega arith)

pub recent-later : (room : List ℕ) (bits : List Bool) (from from' : ℕ) → from ≤ from' → IsRecent room bits from
    → IsRecent room bits from'
recent-later room bits from from' later recent = λ i low within held. recent i (omega arith) within held

-- inside a codeblock none has to be held
pub recent-inside : (s : Searching) (m : Awaited) (room : List ℕ) (bits : List Bool) → s.after ≤ s.rules.block_bits
    → s.pushed ≡ length bits → IsRecent room bits (from_of s (Some m))
recent-inside s m room bits few pushed =
    let test : nat_le s.after s.rules.block_bits ≡ true = grind (arith, nat_tests) in
    let from : from_of s (Some m) ≡ length bits = ap (λ c. cond c s.pushed m.found.place) test ∙ pushed in
    recent-past room bits (from_of s (Some m)) (omega arith)

-- what was held from one bit on is so from the start of a place on that follows it
pub recent-from : (s : Searching) (m : Awaited) (room : List ℕ) (bits : List Bool) (from : ℕ) → from ≤ s.pushed
    → from ≤ m.found.place → IsRecent room bits from
    → IsRecent room bits (from_of s (Some m))
recent-from s m room bits from pushed place recent = go (nat_le s.after s.rules.block_bits)
  where
    go : (c : Bool) → IsRecent room bits (cond c s.pushed m.found.place)
    go true = recent-later room bits from s.pushed pushed recent
    go false = recent-later room bits from m.found.place place recent

-- ---- the last 32 bits
pub last-32 : (w : ℕ) (prefix last : List Bool) → length last ≡ 32 → w ≡ number_of (prefix ++ last) % 2 ^ 32
    → w ≡ number_of last
last-32 w prefix last size e =
    e ∙ ap (λ n. n % 2 ^ 32) (number-value (prefix ++ last)) ∙ value-last prefix last size ∙ sym (number-value last)

pub received-last : (w : ℕ) (bits : List Bool) → 32 ≤ length bits → w ≡ number_of bits % 2 ^ 32
    → w ≡ number_of (drop (length bits - 32) bits)
received-last w bits long e =
    let left = length-drop (length bits - 32) bits in
    last-32 w (take (length bits - 32) bits) (drop (length bits - 32) bits) (omega arith)
    (e ∙ ap (λ l. number_of l % 2 ^ 32) (sym (take-append-drop (length bits - 32) bits)))

-- the first of them
top-of : (last : List Bool) → length last ≡ 32 → (value_from 0 last / 2 ^ 31 == 1) ≡ get_or last 0 false
top-of [] size = absurd (omega arith)
top-of (x ∷ tail) size =
    let high = value-high tail (0 * 2 + bit_number x) in
    let p : 2 ^ length tail ≡ 2147483648 = ap (λ n. 2 ^ n) (pred-of (length tail) size) in
    let v : ℕ = value_from 0 tail in
    let small : v < 2147483648 = subst (λ n. v < n) p (value-lt tail) in
    let is : value_from 0 (x ∷ tail) ≡ (0 * 2 + bit_number x) * 2147483648 + v = high
    ∙ ap (λ n. (0 * 2 + bit_number x) * n + v) p in
    go x (value_from 0 (x ∷ tail)) v small is
  where
    pred-of : (n : ℕ) → suc n ≡ 32 → n ≡ 31
    pred-of n e = omega arith

    go : (x : Bool) (all v : ℕ) → v < 2147483648 → all ≡ (0 * 2 + bit_number x) * 2147483648 + v
        → (all / 2 ^ 31 == 1) ≡ x
    go true all v small is = let one : all / 2 ^ 31 ≡ 1 = omega arith in ap (λ n. n == 1) one
    go false all v small is = let none : all / 2 ^ 31 ≡ 0 = omega arith in ap (λ n. n == 1) none

pub top-bit : (w : ℕ) (bits : List Bool) → w ≡ number_of bits % 2 ^ 32 → 32 ≤ length bits
    → (w / 2 ^ 31 == 1) ≡ get_or bits (length bits - 32) false
top-bit w bits e long =
    let left = length-drop (length bits - 32) bits in
    let here : length bits - 32 + 0 ≡ length bits - 32 = omega arith in
    ap (λ n. n / 2 ^ 31 == 1) (received-last w bits long e ∙ number-value (drop (length bits - 32) bits))
    ∙ top-of (drop (length bits - 32) bits) (omega arith)
    ∙ get_or-drop (length bits - 32) bits 0 false ∙ ap (λ n. get_or bits n false) here
