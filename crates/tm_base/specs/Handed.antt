-- What a taker is handed where a symbol phase may come before the items.
use Rattle.std.specs.Prelude.{ℕ, List, [], ◌∷◌}

-- a symbol phase, how many octets are skipped and what the best path after them costs, or an item
pub data Handed (I : Type 0) : Type 0 where
  Phase : ℕ → ℕ → Handed I
  Item : I → Handed I

-- what it does to a taker, by what a phase does and what an item does
abbrev pub on_handed : {T I : Type 0} → (T → ℕ → ℕ → T → Type 0) → (T → I → T → Type 0) → T
    → Handed I → T → Type 0
on_handed on_phase on_item before (Phase skip cost) now = on_phase before skip cost now
on_handed on_phase on_item before (Item item) now = on_item before item now

-- the items of what was handed over
abbrev pub items_of : {I : Type 0} → List (Handed I) → List I
items_of [] = []
items_of (Phase skip cost ∷ handed) = items_of handed
items_of (Item item ∷ handed) = item ∷ items_of handed
