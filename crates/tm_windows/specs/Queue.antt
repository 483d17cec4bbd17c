-- What contracts see of a queue of windows, and for which octets, put in so far, and which blocks,
-- decoded so far, it stands.
use Rattle.std.specs.Prelude.{ℕ, ◌≡◌, ◌⊎◌, ◌+◌, ◌*◌, ◌<◌, ◌≤◌, ◌++◌, Bool, true, false, List, [], drop, length, take, slice_index_or, Option, Some, None}
use Rattle.std.specs.List.{All}
use Rattle.tm_conv.specs.Path.{AreBits, farthest_step, registers, steps_size}
use Rattle.tm_viterbi.specs.Due.{Place}
use Rattle.tm_viterbi.specs.Starts.{first_start}
use Rattle.tm_viterbi.specs.WindowBlock.{WindowBlock}
use Rattle.tm_viterbi.specs.declared.window_decoder.WindowShape.{WindowShape}
use Rattle.tm_windows.specs.Phase.{IsPhase, octets_needed}
use Rattle.tm_windows.specs.Sharing.{least_shared_ahead, most_window_steps, worker_steps}
use Rattle.tm_windows.specs.Slip.{octets_seen}
use Rattle.tm_windows.specs.Windows.{Windows, Spot, first_spot, Begins, Followed, closing_size, AreBlocksIn, slips_of, dropped_of, kept_of}
use Rattle.tm_windows.specs.declared.choosing.Chosen.{Chosen}
use Rattle.tm_windows.specs.declared.queue.QueueSettings.{QueueSettings}

-- how octets are cut into windows, where a slip is looked for over as many steps as `seen` says
abbrev pub windows_of : QueueSettings → Option ℕ → Windows
windows_of settings seen = record {
  settings = record {
    rate = settings.shape.rate;
    invert = settings.shape.invert;
    start = settings.start;
    keep = settings.shape.keep;
    ahead = settings.shape.ahead;
  };
  seen = seen;
}

-- what contracts see of a queue of windows
pub record Queueing : Type 0 where
  -- how octets are cut into windows
  pub windows : Windows
  -- the symbol phase is to be found
  pub find : Bool
  -- how many windows are decoded at a time at most, and by how many workers
  pub most : ℕ
  pub workers : ℕ
  -- None before the choice of the phase, and where it is given
  pub chosen : Option Chosen
  -- where the next window begins, and how many octets were dropped before it, or None where this
  -- was not decided yet
  pub starts : Option ℕ
  pub t : ℕ
  pub dropped : Option ℕ
  -- before how many of the windows so far octets were dropped, and how many
  pub slips : ℕ
  pub lost : ℕ
  -- the octets of windows that are not decoded yet
  pub held : List ℕ
  -- no octets come any more
  pub has_ended : Bool
  -- the blocks of the windows that were decoded last, and by how many workers at most
  pub ready : List WindowBlock
  pub by : ℕ
  -- the step at which the first of these windows begins, and its octets and those after it, as long
  -- as no more are put in
  pub run_t : ℕ
  pub read : List ℕ

-- the shape of its windows
abbrev pub shape_of : Queueing → WindowShape
shape_of q = record {
  rate = q.windows.settings.rate;
  invert = q.windows.settings.invert;
  keep = q.windows.settings.keep;
  ahead = q.windows.settings.ahead;
}

-- ---- the symbol phase

-- over how many steps it is found
abbrev pub phase_steps : Queueing → ℕ
phase_steps q = q.windows.settings.keep + q.windows.settings.ahead

-- with how many octets it is chosen, whatever octets come
abbrev pub phase_size : Queueing → ℕ
phase_size q = octets_needed q.windows.settings.rate (phase_steps q)

abbrev pub AwaitsPhase : Queueing → Type 0
AwaitsPhase q = (q.find ≡ true) × (q.chosen ≡ None)

-- it is given, or it is the phase of these octets
abbrev pub IsChoice : Queueing → List ℕ → Option Chosen → Type 0
IsChoice q octets None = q.find ≡ true → ⊥
IsChoice q octets (Some chosen) = (q.find ≡ true)
    × IsPhase q.windows.settings.rate q.windows.settings.invert (phase_steps q) octets chosen

-- how many octets stand before the first window
abbrev pub skip_of : Option Chosen → ℕ
skip_of None = 0
skip_of (Some chosen) = chosen.skip

-- ---- what is held

-- the steps of the windows so far, and the octets that are held: at most the octets put in
abbrev pub reached : Queueing → ℕ
reached q = q.t + length q.held

-- how many octets are held at most
abbrev pub room_of : Queueing → ℕ
room_of q = steps_size q.windows.settings.rate q.t
    (q.most * q.windows.settings.keep + q.windows.settings.ahead + 1)

-- how many octets may be held now: those by which the phase is chosen, and then those of a run
abbrev pub fill_room_by : Bool → Option Chosen → Queueing → ℕ
fill_room_by true None q = phase_size q
fill_room_by find chosen q = room_of q

abbrev pub fill_room : Queueing → ℕ
fill_room q = fill_room_by q.find q.chosen q

-- the octets that are held are too few to choose the phase, or close no window once it is chosen;
-- and where it is still to be decided how many are dropped, they are too few to look for a slip
pub record IsOpen (q : Queueing) : Type 0 where
  pub few : (AwaitsPhase q × (length q.held < phase_size q))
      ⊎ ((AwaitsPhase q → ⊥) × (length q.held < closing_size q.windows.settings q.t))
  pub unseen : q.dropped ≡ None → AwaitsPhase q ⊎ ((steps : ℕ) × (q.windows.seen ≡ Some steps)
      × (length q.held < octets_seen q.windows.settings.rate q.t steps))

-- they close no window more than are decoded at a time
abbrev pub HoldsNoMore : Queueing → Type 0
HoldsNoMore q = length q.held < steps_size q.windows.settings.rate q.t
    ((q.most + 1) * q.windows.settings.keep + q.windows.settings.ahead + 1)

-- ---- for what it stands

-- a spot whose octets go on there, and where it was decided how many octets are dropped, they were
abbrev pub IsAt : Windows → Spot → Option ℕ → Place → Type 0
IsAt w spot None place = spot ≡ record { place = place; decided = None }
IsAt w spot (Some dropped) place = Begins w spot (record { dropped = dropped; place = place })

-- before the choice of the phase all octets are held, and no window was decoded
pub record BeforePhase (q : Queueing) (given : List ℕ) (done : List WindowBlock) : Type 0 where
  pub awaits : AwaitsPhase q
  pub going : q.has_ended ≡ false
  pub held : q.held ≡ given
  pub few : length q.held ≤ phase_size q
  pub nothing : done ≡ []
  pub starts : q.starts ≡ first_start q.windows.settings.start
  pub first : q.t ≡ 0
  pub undecided : q.dropped ≡ None
  pub undropped : q.slips ≡ 0
  pub nothing_lost : q.lost ≡ 0

-- after it, or where it is given, the windows of the octets after the phase are closed, with these
-- blocks, up to those that are held; before the end the octets are enough to choose the phase,
-- whatever octets come
pub record AfterPhase (q : Queueing) (given : List ℕ) (done : List WindowBlock) : Type 0 where
  pub choice : IsChoice q given q.chosen
  pub enough : q.has_ended ≡ false → q.find ≡ true → phase_size q ≤ length given
  pub to : Spot
  pub closed : Followed q.windows (first_spot q.windows (drop (skip_of q.chosen) given)) done to
  pub at : IsAt q.windows to q.dropped
      (record { starts = q.starts; t = q.t; octets = q.held })
  pub few : HoldsNoMore q
  pub kept : kept_of done ≡ q.t
  pub slips : slips_of done ≡ q.slips
  pub lost : q.lost ≡ dropped_of done

-- these octets and no others were put in, and these blocks were decoded, the ready ones last
abbrev pub QueueStandsFor : Queueing → List ℕ → List WindowBlock → Type 0
QueueStandsFor q given done = BeforePhase q given done ⊎ AfterPhase q given done

-- all octets were put in, these are all blocks, and `left` octets are left over
pub record QueueEndsFor (q : Queueing) (given : List ℕ) (done : List WindowBlock)
    (left : ℕ) : Type 0 where
  pub choice : IsChoice q given q.chosen
  pub blocks : AreBlocksIn q.windows (drop (skip_of q.chosen) given) done left
  pub kept : kept_of done ≡ q.t
  pub slips : slips_of done ≡ q.slips
  pub lost : q.lost ≡ dropped_of done

-- it cuts octets as before, with the same room and workers
pub record IsSameQueue (before now : Queueing) : Type 0 where
  pub windows : now.windows ≡ before.windows
  pub find : now.find ≡ before.find
  pub most : now.most ≡ before.most
  pub workers : now.workers ≡ before.workers

-- with nothing dropped between them the octets held close `count` windows
abbrev pub HoldsRun : Queueing → ℕ → Type 0
HoldsRun q count = steps_size q.windows.settings.rate q.t
    (count * q.windows.settings.keep + q.windows.settings.ahead + 1) ≤ length q.held

-- it is for `workers` workers, where windows that keep `waiting` bits may be buffered: there are as
-- many workers, with a window each at a time at least, and one worker has just one; there are no
-- more windows than one each, or than it takes to keep these bits and one more; where they are
-- shared out they keep more than these bits, or have `worker_steps` steps a worker, up to a window
pub record SharesAmong (workers waiting : ℕ) (q : Queueing) : Type 0 where
  pub all : q.workers ≡ workers
  pub each : workers ≤ q.most
  pub alone : workers ≡ 1 → q.most ≡ 1
  pub bound : q.most * (q.windows.settings.keep + q.windows.settings.ahead) ≤ most_window_steps
  pub few : (q.most ≤ workers)
      ⊎ (q.most * q.windows.settings.keep ≤ waiting + q.windows.settings.keep)
  pub enough : 1 < workers → least_shared_ahead ≤ q.windows.settings.ahead
      → (waiting < q.most * q.windows.settings.keep) ⊎ (workers * worker_steps
      < (q.most + workers) * (q.windows.settings.keep + q.windows.settings.ahead))

-- ---- the octets of what is ready

-- the step at which the window of a ready block begins
abbrev pub step_of : Queueing → (index : ℕ) → ℕ
step_of q index = q.run_t + kept_of (take index q.ready)

-- the octets from there on
abbrev pub octets_of : Queueing → (index : ℕ) → List ℕ
octets_of q index =
    drop (steps_size q.windows.settings.rate q.run_t (kept_of (take index q.ready))) q.read

-- how many octets the steps of its window have
abbrev pub window_size : Queueing → (index : ℕ) → WindowBlock → ℕ
window_size q index block = steps_size q.windows.settings.rate (step_of q index) block.steps

-- the path of a window of at most so many steps
pub record IsWindowPath (most : ℕ) (block : WindowBlock) : Type 0 where
  pub start : block.start < registers
  pub end : block.end_state < registers
  pub bits : AreBits (take block.kept block.bits)
  pub long : length block.bits ≡ block.steps
  pub kept : block.kept ≤ block.steps
  pub few : block.steps ≤ most

-- the octets of all steps of the windows of the ready blocks are there: none was put in since
pub record IsThere (q : Queueing) : Type 0 where
  pub octets : (index : ℕ) (block : WindowBlock) → index < length q.ready
      → steps_size q.windows.settings.rate q.run_t
      (kept_of (take index q.ready) + (slice_index_or q.ready index block).steps) ≤ length q.read
  pub few : q.run_t + kept_of q.ready ≤ q.t
  pub bound : q.run_t + length q.read ≤ farthest_step
  pub paths : All (IsWindowPath (q.windows.settings.keep + q.windows.settings.ahead)) q.ready
  pub kept : (index : ℕ) → index < length q.ready
      → kept_of (take index q.ready) ≡ index * q.windows.settings.keep

-- they come after these blocks, and their octets are those that were put in
pub record IsRead (q : Queueing) (given : List ℕ) (done : List WindowBlock) : Type 0 where
  pub step : q.run_t ≡ kept_of done
  pub octets : q.read ≡ drop (skip_of q.chosen + dropped_of (done ++ q.ready)
      + steps_size q.windows.settings.rate 0 (kept_of done)) given
