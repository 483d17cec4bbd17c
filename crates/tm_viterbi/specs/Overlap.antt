-- What a forward pass over a window goes on with in the next one.
use Rattle.std.specs.Prelude.{ℕ, ◌≡◌, ◌+◌, ◌^◌, ◌≤◌, Bool, List, length, reverse, slice_index, take, vec_len}
use Rattle.tm_conv.specs.declared.rates.Rate.{Rate}
use Rattle.tm_conv.specs.Path.{steps_size}
use Rattle.tm_viterbi.specs.Carries.{Carries}
use Rattle.tm_viterbi.specs.Totals.{AreAtMost, IsFirstLeast, total_of}
use Rattle.tm_viterbi.specs.Walk.{AreBest, past_of, start_of}
use Rattle.tm_viterbi.specs.declared.window_pass.WindowPass.{WindowPass}

-- path metrics before a window are at most this
abbrev pub most_before : ℕ
most_before = 2 ^ 31

-- the steps of the pass, with their octets, the path metrics before and after them, and the
-- survivors
pub record IsOverlap (rate : Rate) (invert : Bool) (p : WindowPass) : Type 0 where
  pub steps : p.overlap ≤ vec_len p.survivors
  pub octets : p.size ≤ vec_len p.octets
  pub size : p.size ≡ steps_size rate p.t p.overlap
  pub bounded : AreAtMost most_before p.after
  pub carries : Carries rate invert p.t (take p.size p.octets.items) p.before p.after
      (take p.overlap p.survivors.items)

-- the best path of n steps over the octets, where a path from a register costs as much more as
-- stands in `before`
pub record IsPathFrom (rate : Rate) (invert : Bool) (t n : ℕ) (before octets : List ℕ) (first : ℕ)
    (bits : List ℕ) (metric : ℕ) : Type 0 where
  pub sums : List ℕ
  pub survivors : List ℕ
  pub last : ℕ
  pub best : AreBest (total_of rate invert t before octets) n sums survivors
  pub least : IsFirstLeast sums last
  pub start : first ≡ start_of survivors last
  pub path : bits ≡ reverse (past_of survivors last)
  pub sum : slice_index sums last ≡ slice_index before first + metric
