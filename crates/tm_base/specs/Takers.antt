-- What a taker was handed, one item after another. `took before item now` says what an item that
-- was taken does to it, and `broke before item now` what an item does at which the taker failed.
use Rattle.std.specs.Prelude.{◌≡◌, List, ◌∷◌, ◌++◌}
use Rattle.std.specs.List.{FoldsTo}

-- all of the items were taken, in their order
abbrev pub HandedOver : {T I : Type 0} → (T → I → T → Type 0) → T → List I → T → Type 0
HandedOver took before items now = FoldsTo took before items now

-- the items of a prefix were taken, and the taker failed at the next one
pub record HandedPart {T I : Type 0} (took broke : T → I → T → Type 0) (before : T) (items : List I)
    (now : T) : Type 0 where
  pub prefix : List I
  pub next : I
  pub rest : List I
  pub middle : T
  pub split : items ≡ prefix ++ next ∷ rest
  pub handed : HandedOver took before prefix middle
  pub failed : broke middle next now
