-- The edges between two columns, two and two: those from registers 2 * j and 2 * j + 1 lead to j and j + 32.
use Rattle.std.proofs.Common.{◌≡◌, ℕ, zero, suc, ◌+◌, ◌-◌, ◌*◌, ◌/◌, ◌%◌, ◌^◌, ◌<◌, ◌≤◌, inl, inr, List, [], ◌∷◌, bit_or, get_or, sym, ap, ◌∙◌, refl, arith, eqb, true}
use Rattle.std.proofs.lemmas.Bool.{agree_below_at, cases_eq, eqb-true}
use Rattle.std.proofs.lemmas.Nat.{le_or_l, le_or_r}
use Rattle.tm_conv.specs.Path.{c1, c2}
use Rattle.tm_path_cert.specs.Tests.{IsLowEnough}
use Rattle.tm_path_cert.specs.declared.columns.TheConstants.{PAIRS}

-- the two sums of an edge, as one number
abbrev pair : ℕ → ℕ → ℕ
pair register bit = 2 * c1 register bit + c2 register bit

-- what an edge costs by its two sums
abbrev pub by_sums : List ℕ → ℕ → ℕ → ℕ
by_sums costs register bit = get_or costs (2 * c1 register bit + c2 register bit) 0

-- a list of four has at 2 * c + d what its entries are by c and d
pub at_pair : (f : ℕ → ℕ → ℕ) (w x y z : ℕ) → w ≡ f 0 0 → x ≡ f 0 1 → y ≡ f 1 0 → z ≡ f 1 1 → (c d : ℕ) → c < 2
    → d < 2 → get_or (w ∷ x ∷ y ∷ z ∷ []) (2 * c + d) 0 ≡ f c d
at_pair f w x y z ew ex ey ez zero zero cl dl = ew
at_pair f w x y z ew ex ey ez zero (suc zero) cl dl = ex
at_pair f w x y z ew ex ey ez (suc zero) zero cl dl = ey
at_pair f w x y z ew ex ey ez (suc zero) (suc zero) cl dl = ez
at_pair f w x y z ew ex ey ez zero (suc (suc d)) cl dl = absurd (omega arith)
at_pair f w x y z ew ex ey ez (suc zero) (suc (suc d)) cl dl = absurd (omega arith)
at_pair f w x y z ew ex ey ez (suc (suc c)) d cl dl = absurd (omega arith)

-- the registers that edges from 2 * j and 2 * j + 1 lead to are kept
abbrev pub AreLowEnough : List ℕ → List ℕ → List ℕ → ℕ → Type 0
AreLowEnough costs before sums j =
    IsLowEnough (by_sums costs) before sums j × IsLowEnough (by_sums costs) before sums (j + 32)

-- ---- the table's entries are the sums of the edges from even registers by bit 0

abbrev entry : ℕ → ℕ → ℕ
entry k i = get_or PAIRS (2 * k + i % 2) 0

table : (j : ℕ) → j < 32 → entry (j / 4) (j % 4) ≡ pair (2 * j) 0
table j lt = eqb-true _ _ (agree_below_at (λ j. eqb (entry (j / 4) (j % 4)) (pair (2 * j) 0)) (λ j. true) 32 j refl lt)

pub pair_at : (k i : ℕ) → k < 8 → i < 4 → entry k i ≡ pair (2 * (4 * k + i)) 0
pair_at k i klt ilt =
    let there : (4 * k + i) / 4 ≡ k = omega arith in
    let rest : (4 * k + i) % 4 ≡ i = omega arith in
    ap (λ v. entry v i) (sym there) ∙ ap (entry ((4 * k + i) / 4)) (sym rest) ∙ table (4 * k + i) (omega arith)

pub pair_small : (k i : ℕ) → k < 8 → i < 4 → entry k i < 4
pair_small k i klt ilt = omega (arith, pair_at k i klt ilt)

even_by_one : (j : ℕ) → j < 32 → pair (2 * j) 1 ≡ 3 - pair (2 * j) 0
even_by_one j lt = omega arith

odd_by_none : (j : ℕ) → j < 32 → pair (2 * j + 1) 0 ≡ 3 - pair (2 * j) 0
odd_by_none j lt = omega arith

odd_by_one : (j : ℕ) → j < 32 → pair (2 * j + 1) 1 ≡ pair (2 * j) 0
odd_by_one j lt = omega arith

-- ---- a register is kept by its two edges

two_edges : (costs before sums : List ℕ) (j bit register p q : ℕ) → j < 32 → bit < 2 → register ≡ j + 32 * bit
    → p ≡ pair (2 * j) bit → q ≡ pair (2 * j + 1) bit
    → get_or sums register 0 ≤ get_or before (2 * j) 0 + get_or costs p 0
    → get_or sums register 0 ≤ get_or before (2 * j + 1) 0 + get_or costs q 0
    → IsLowEnough (by_sums costs) before sums register
two_edges costs before sums j bit register p q lt small at ep eq by_even by_odd from b from_small b_small same =
    let one : b ≡ bit = omega (arith, same, at) in
    let edge : ℕ → ℕ → ℕ = λ r c. get_or before r 0 + by_sums costs r c in
    let along : edge from b ≡ edge from bit = ap (edge from) one in
    elim (cases_eq from (2 * j)) [
      | inl e ↦ (let there : edge from bit ≡ edge (2 * j) bit = ap (λ v. edge v bit) e in
          omega (arith, by_even, along, there, ap (λ v. get_or costs v 0) ep))
      | inr ne ↦ (let e : from ≡ 2 * j + 1 = omega (arith, same, at, ne) in
          let there : edge from bit ≡ edge (2 * j + 1) bit = ap (λ v. edge v bit) e in
          omega (arith, by_odd, along, there, ap (λ v. get_or costs v 0) eq))
    ]

-- where none of the four edges from registers 2 * j and 2 * j + 1 undercuts, both registers that they lead to are kept
pub both_keep : (costs before sums : List ℕ) (j p : ℕ) → j < 32 → p ≡ pair (2 * j) 0
    → (get_or sums j 0 ≤ get_or before (2 * j) 0 + get_or costs p 0)
    × (get_or sums j 0 ≤ get_or before (2 * j + 1) 0 + get_or costs (3 - p) 0)
    → (get_or sums (j + 32) 0 ≤ get_or before (2 * j) 0 + get_or costs (3 - p) 0)
    × (get_or sums (j + 32) 0 ≤ get_or before (2 * j + 1) 0 + get_or costs p 0)
    → AreLowEnough costs before sums j
both_keep costs before sums j p lt is low high = (
  two_edges costs before sums j 0 j p (3 - p) lt (omega arith) (omega arith) is
      (omega (arith, is, odd_by_none j lt)) low.0 low.1,
  two_edges costs before sums j 1 (j + 32) (3 - p) p lt (omega arith) (omega arith)
      (omega (arith, is, even_by_one j lt)) (omega (arith, is, odd_by_one j lt)) high.0 high.1,
)

-- ---- a difference that is below zero has the top bit set

abbrev difference : ℕ → ℕ → ℕ
difference a b = (a + (2 ^ 64 - b)) % 2 ^ 64

not_below : (a b : ℕ) → a < 2 ^ 34 → b < 2 ^ 32 → difference a b < 2 ^ 63 → b ≤ a
not_below a b small lt top = omega arith

-- where the bits of four differences have no top bit, none is below zero
pub none_below : (a b c d low high : ℕ) → a < 2 ^ 34 → b < 2 ^ 34 → c < 2 ^ 34 → d < 2 ^ 34 → low < 2 ^ 32
    → high < 2 ^ 32
    → bit_or (bit_or (bit_or (difference a low) (difference b low)) (difference c high)) (difference d high) < 2 ^ 63
    → ((low ≤ a) × (low ≤ b)) × ((high ≤ c) × (high ≤ d))
none_below a b c d low high al bl cl dl ll hl top =
    let w = difference a low in
    let x = difference b low in
    let y = difference c high in
    let z = difference d high in
    let two = bit_or w x in
    let three = bit_or two y in (
      (
        not_below a low al ll (omega (arith, top, le_or_l three z, le_or_l two y, le_or_l w x)),
        not_below b low bl ll (omega (arith, top, le_or_l three z, le_or_l two y, le_or_r w x)),
      ),
      (
        not_below c high cl hl (omega (arith, top, le_or_l three z, le_or_r two y)),
        not_below d high dl hl (omega (arith, top, le_or_r three z)),
      ),
    )
