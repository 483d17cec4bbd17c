-- Windows that were decoded from registers which were only taken to be their starts, and settled.
use Rattle.std.specs.Prelude.{ℕ, ◌≡◌, ◌+◌, ◌*◌, ◌<◌, ◌≤◌, List, ◌∷◌, Option, drop, length, map, slice_index_or, take, vec_len}
use Rattle.std.specs.List.{All}
use Rattle.tm_conv.specs.Path.{steps_size}
use Rattle.tm_viterbi.specs.WindowBlock.{WindowBlock}
use Rattle.tm_viterbi.specs.Due.{Place, Closes, Closed}
use Rattle.tm_viterbi.specs.declared.window_decoder.WindowShape.{WindowShape}
use Rattle.tm_windows.specs.Windows.{dropped_at}
use Rattle.tm_windows.specs.declared.candidate.Candidate.{Candidate}
use Rattle.tm_windows.specs.declared.window_run.WindowRun.{WindowRun}

-- the window closes with this block
abbrev pub ClosesWith : WindowShape → Place → WindowBlock → Type 0
ClosesWith shape at block = Closes shape.rate shape.invert shape.keep shape.ahead at block

-- from one place to another by closed windows with these blocks
abbrev pub ClosedWith : WindowShape → Place → List WindowBlock → Place → Type 0
ClosedWith shape from blocks to = Closed shape.rate shape.invert shape.keep shape.ahead from blocks
    to

-- the block that a candidate is
abbrev pub block_of : Candidate → WindowBlock
block_of c = record {
  start = c.path.start;
  steps = c.steps;
  kept = c.kept;
  metric = c.path.metric;
  bits = take c.steps c.bits.items;
  end_state = c.path.end_state;
  dropped = c.dropped;
}

-- it is the block of the window from step t on with the octets, from the registers that were taken
-- to be its start set
abbrev pub IsCandidate : WindowShape → ℕ → List ℕ → Candidate → Type 0
IsCandidate shape t octets c = ClosesWith shape
    (record { starts = c.starts; t = t; octets = octets }) (block_of c)

-- the candidates from number `from` to number `to` are those of windows one after another, of
-- which number 0 begins at step t with the octets
abbrev pub AreCandidates : WindowShape → ℕ → List ℕ → ℕ → ℕ → List Candidate → Type 0
AreCandidates shape t octets from to candidates =
    (k : ℕ) (d : Candidate) → from ≤ k → k < to
    → IsCandidate shape (t + k * shape.keep)
    (drop (steps_size shape.rate t (k * shape.keep)) octets) (slice_index_or candidates k d)

-- each has room for the bits of `steps` steps
abbrev pub HaveRoom : ℕ → List Candidate → Type 0
HaveRoom steps candidates = All (λ c. vec_len c.bits ≡ steps) candidates

-- the octets have the steps of `count` windows, and one more
abbrev pub HoldsWindows : WindowRun → ℕ → Type 0
HoldsWindows run count = steps_size run.shape.rate run.t
    (count * run.shape.keep + run.shape.ahead + 1) ≤ length run.octets.now

-- where the first of them begins
abbrev pub run_place : WindowRun → Place
run_place run = record { starts = run.starts; t = run.t; octets = run.octets.now }

-- where a window begins, `count` windows after the one from step t on with the octets
abbrev pub after_windows : WindowShape → ℕ → List ℕ → ℕ → Option ℕ → Place
after_windows shape t octets count starts =
    record {
      starts = starts;
      t = t + count * shape.keep;
      octets = drop (steps_size shape.rate t (count * shape.keep)) octets;
    }

-- the first `count` candidates are the blocks of windows one after another, and the window after
-- them starts from `next`
abbrev pub AreSettled : WindowRun → ℕ → List Candidate → Option ℕ → Type 0
AreSettled run count candidates next = ClosedWith run.shape (run_place run)
    (map block_of (take count candidates))
    (after_windows run.shape run.t run.octets.now count next)

-- these are the blocks of `count` windows one after another, where `dropped` octets were dropped
-- before the first of them, and the window after them starts from `next`
abbrev pub AreBlocksOfRun : WindowRun → (count dropped : ℕ) → List WindowBlock → Option ℕ → Type 0
AreBlocksOfRun run count dropped blocks next =
    (first : WindowBlock) × (others : List WindowBlock)
    × (blocks ≡ dropped_at dropped first ∷ others)
    × ClosedWith run.shape (run_place run) (first ∷ others)
    (after_windows run.shape run.t run.octets.now count next)
