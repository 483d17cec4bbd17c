-- What callers see of tickets and seats.
use Rattle.std.specs.Prelude.{◌≡◌, ℕ, Bool, List, []}
use Rattle.tm_workers.specs.declared.seats.Seat.{Seat}
use Rattle.tm_workers.specs.declared.tickets.Tickets.{Tickets}

-- the numbers that the seat has drawn, in order
abbrev pub numbers : Seat → List ℕ
numbers s = s.place.me.0.drawn

abbrev pub shares_of : Seat → ℕ
shares_of s = s.place.me.0.shares

-- whether the seat has seen that no number is left
abbrev pub is_spent : Seat → Bool
is_spent s = s.place.me.0.spent

-- how many numbers there are
abbrev pub limit_of : Tickets → ℕ
limit_of t = t.table.shared.key

-- the seat is one of these tickets
pub record IsOf (t : Tickets) (s : Seat) : Type 0 where
  pub table : s.place.table_id ≡ t.table.shared.table_id
  pub limit : s.place.me.0.limit ≡ t.table.shared.key
  pub bare : s.place.me.1 ≡ []
