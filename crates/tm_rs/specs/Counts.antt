-- How many products are counted for a locator, and where erased places are taken out.
use Rattle.std.specs.Prelude.{ℕ, ◌+◌, ◌-◌, ◌*◌, ◌≤◌}

-- an upper bound on the products for the locator of any word
abbrev pub most_locator_products : ℕ → ℕ
most_locator_products e = 2 * e * (4 * e + 3)

-- an upper bound on the products for any word with erased places
abbrev pub most_products : ℕ → ℕ
most_products e = most_locator_products e + 8 * e * e

-- where `count` places are erased, an upper bound on the products between two counts of them
abbrev pub TakesAtMost : ℕ → ℕ → ℕ → ℕ → Type 0
TakesAtMost e count before now = count ≤ 2 * e
    → now ≤ before + (count * (count + 1) + (2 * e - count) * (2 * e + 4))

-- where `count` places are erased, a lower bound on the products between two counts of them
abbrev pub TakesAtLeast : ℕ → ℕ → ℕ → ℕ → Type 0
TakesAtLeast e count before now = count ≤ 2 * e
    → 2 * before + count * (count + 1) + 2 * ((2 * e - count) * (count + 1)) ≤ 2 * now
