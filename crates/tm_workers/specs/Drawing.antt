-- The rule of the tickets, and what its steps say. Word 0 is the counter.
use Rattle.std.specs.Prelude.{◌≡◌, ℕ, ◌+◌, ◌-◌, ◌<◌, ◌≤◌, ◌||◌, nat_lt, cond, min, Bool, true, false, List, [], ◌∷◌, ◌++◌, length, slice_index}
use mathlib.Core.Option.{some}
use lib.ListN.{get_elem?}
use Rattle.atomic_table.specs.Table.{State, Me, Step}
use Rattle.tm_workers.specs.declared.seats.View.{View}
use Rattle.tm_workers.specs.Numbers.{times, once_below, total}

-- a seat that draws below `limit` has drawn these numbers and has these shares; it is spent where
-- it has seen that no number is left
abbrev pub view : ℕ → List ℕ → ℕ → Bool → View
view limit drawn shares spent = record {
  limit = limit;
  drawn = drawn;
  shares = shares;
  spent = spent;
}

-- how many shares there are: no more seats draw than this
abbrev pub all_shares : ℕ
all_shares = 64

-- what the first seat knows: it has all shares
abbrev pub first_view : ℕ → View
first_view limit = view limit [] all_shares false

-- the shares of a seat that may still draw
abbrev pub live_shares : View → ℕ
live_shares v = cond v.spent 0 v.shares

-- each number below n that was drawn stands in one seat's list, once, and no other number in any
abbrev pub EachOnce : ℕ → ℕ → List View → Type 0
EachOnce n counter views = (x : ℕ) → total (λ v. times x v.drawn) views
    ≡ once_below x (min counter n)

-- a spent seat saw the counter at n; a seat with shares knows n; a seat with none is empty
pub record Fits (n counter : ℕ) (v : View) : Type 0 where
  pub spent : v.spent ≡ true → n ≤ counter
  pub knows : 0 < v.shares → v.limit ≡ n
  pub idle : v.shares ≡ 0 → (v.drawn ≡ []) × (v.spent ≡ false)

-- what holds while the counter is at `counter`
pub record HoldsWhile (n counter : ℕ) (views : List View) : Type 0 where
  pub each_once : EachOnce n counter views
  pub fits : (id : ℕ) (v : View) → get_elem? views id ≡ some v → Fits n counter v
  pub shares : total (λ v. v.shares) views ≡ all_shares
  pub never_wraps : counter - n + total live_shares views ≤ all_shares

-- the rule: word 0 is the counter
abbrev pub Rule : ℕ → State (Unit {0}) View → Type 0
Rule n s = (length s.words ≡ 1) × HoldsWhile n (slice_index s.words 0) s.views

-- the view after a draw that found the counter at `found`
abbrev pub drawn_at : ℕ → View → View
drawn_at found v = cond (nat_lt found v.limit)
    (view v.limit (v.drawn ++ found ∷ []) v.shares v.spent) (view v.limit v.drawn v.shares true)

-- what a draw says; the seat has at most as many numbers as there are
abbrev pub Drew : Step (Unit {0}) → Me (Unit {0}) View → ℕ → Me (Unit {0}) View → Type 0
Drew step me found me' = (me'.0 ≡ drawn_at found me.0) × (me'.1 ≡ me.1)
    × (length me'.0.drawn ≤ me'.0.limit)

-- a seat after `part` shares were cut off
abbrev pub remaining_part : ℕ → View → View
remaining_part part v = view v.limit v.drawn (v.shares - part) v.spent

-- the new seat
abbrev pub cut_part : ℕ → View → View
cut_part part v = view v.limit [] part v.spent

-- two seats joined
abbrev pub both_parts : View → View → View
both_parts v w = view v.limit (v.drawn ++ w.drawn) (v.shares + w.shares) (v.spent || w.spent)

-- what is left of a seat that was joined to another
abbrev pub left_view : View
left_view = view 0 [] 0 false

-- a load that says that no seat has more than all shares
abbrev pub Counted : Step (Unit {0}) → Me (Unit {0}) View → ℕ → Me (Unit {0}) View → Type 0
Counted step me found me' = (me' ≡ me) × (me.0.shares ≤ all_shares)
