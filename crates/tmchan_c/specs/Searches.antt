-- A search for markers, as a program in C keeps it.
use Rattle.std.specs.Int.{from_bool}
use Rattle.std.specs.Prelude.{◌≡◌, ℕ, ◌+◌, ◌≤◌, ◌==◌, ◌&&◌, nat_le, ℤ, pos, Bool, true, List, [], ◌++◌, length, Option, Some, None, if◌then◌else◌}
use Rattle.tm_base.specs.Marker.{most_tolerance}
use Rattle.tm_config.specs.Accepted.{sought_fits}
use Rattle.tm_config.specs.Configuration.{most_fly, most_verify}
use Rattle.tm_config.specs.declared.error.ConfigError.TheVariants.{Tolerance, Fly, Polarity, Verify}
use Rattle.tm_sync.specs.declared.found.Found.{Found}
use Rattle.tm_sync.specs.declared.found.Paused.{Paused}
use Rattle.tm_sync.specs.Paused.{is_resumable, resumed}
use Rattle.tm_sync.specs.Places.{verify_bits}
use Rattle.tm_sync.specs.Searching.{Searching, SearchStandsFor}
use Rattle.tm_sync.specs.Bits.{bits_bound}
use Rattle.tm_buffers.specs.Searching.{Finds, NoneSooner, span}
use Rattle.tm_buffers.specs.Buffer.{most_taken}
use Rattle.tmchan_c.specs.Refusal.{unless}
use Rattle.tmchan_c.specs.declared.refusal.Refusal.{Refusal}
use Rattle.tmchan_c.specs.declared.refusal.Refusal.TheVariants.{Room, Closed, Value}
use Rattle.tmchan_c.specs.declared.search.SearchState.{SearchState}
use Rattle.tmchan_c.specs.declared.search.PlaceState.{PlaceState}

-- the search that it stands for
abbrev pub paused_of : SearchState → Paused
paused_of s = record {
  tolerance = s.tolerance;
  fly = s.fly;
  either = s.either == 1;
  block_bits = s.block_bits;
  verify = s.verify;
  received = s.received;
  pushed = s.pushed;
  start = s.start;
  before = if s.has_before == 1
      then Some (record { inverted = s.before_inverted == 1; bridged = s.before_bridged })
      else None;
  awaited = if s.has_place == 1
      then Some (record {
        found = record {
          place = s.place;
          distance = s.distance;
          bridged = s.bridged == 1;
          inverted = s.inverted == 1;
        };
        next = record { inverted = s.next_inverted == 1; bridged = s.next_bridged };
      })
      else None;
  after = s.after;
}

abbrev pub search_of : SearchState → Searching
search_of s = resumed (paused_of s)

-- whether it is open, and is one that can go on
abbrev pub goes_on : SearchState → Bool
goes_on s = (s.is_open == 1) && is_resumable (paused_of s)

-- the first reason to refuse the rules that these numbers give, or none
abbrev pub rules_refusal : ℕ → ℕ → ℕ → ℕ → Option Refusal
rules_refusal tolerance fly either verify =
    unless (nat_le tolerance most_tolerance) (Value Tolerance)
    (unless (nat_le fly most_fly) (Value Fly)
    (unless (sought_fits either) (Value Polarity)
    (unless (nat_le verify most_verify) (Value Verify) None)))

-- the first reason to refuse a room of `room` octets, and an array of `count` elements that has
-- `size` bits, from bit `at` on, or none
abbrev pub span_refusal : SearchState → ℕ → ℕ → ℕ → ℕ → Option Refusal
span_refusal s room at count size =
    unless (goes_on s) Closed
    (unless ((room == verify_bits (search_of s).rules) && nat_le count most_taken && nat_le at size)
    Room None)

-- a new search, which is open, whatever its room holds
abbrev pub Begins : SearchState → Type 0
Begins s = (goes_on s ≡ true) × ((room : List ℕ) → length room ≡ verify_bits (search_of s).rules
    → SearchStandsFor (search_of s) room [] [])

abbrev pub found_answer : Option Found → ℤ
found_answer None = pos 0
found_answer (Some found) = pos 1

-- the place that was found, or what stood there before
abbrev pub place_after : Option Found → PlaceState → PlaceState
place_after None place = place
place_after (Some f) place = record {
  place = f.place;
  distance = f.distance;
  bridged = from_bool f.bridged;
  inverted = from_bool f.inverted;
}

-- A search has taken bits of a list of `size` from one index on up to another: those up to the one
-- with which the next place is found and no further, or all.
pub record FindsInto (was now : SearchState) (room room_now : List ℕ) (at end size : ℕ)
    (bits : List Bool) (place place_now : PlaceState) (answer : ℤ) : Type 0 where
  pub found : Option Found
  pub answers : answer ≡ found_answer found
  pub reported : place_now ≡ place_after found place
  pub first : at ≤ end
  pub within : end ≤ size
  pub all : found ≡ None → end ≡ size
  pub going : goes_on now ≡ true
  pub rules : (search_of now).rules ≡ (search_of was).rules
  pub finds : (given : List Bool) (before : List Found) → length given + size ≤ bits_bound
      → SearchStandsFor (search_of was) room given before
      → Finds (search_of now) room_now (given ++ span at end bits) before found
      × NoneSooner (search_of was).rules given before bits at end
