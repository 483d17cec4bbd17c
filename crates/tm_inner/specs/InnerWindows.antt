-- What is said of the windows of received octets.
use Rattle.std.specs.Prelude.{◌≡◌, ◌⊎◌, ℕ, zero, suc, ◌+◌, ◌<◌, false, List, [], ◌∷◌, ◌++◌, length, map, drop, take, slice_index_or, Option, Some, None}
use Rattle.tm_config.specs.Configuration.{Configuration}
use Rattle.tm_conv.specs.Counts.{none_counted}
use Rattle.tm_conv.specs.declared.counts.SymbolCounts.{SymbolCounts}
use Rattle.tm_conv.specs.declared.rates.Rate.{Rate}
use Rattle.tm_viterbi.specs.WindowBlock.{WindowBlock}
use Rattle.tm_viterbi.specs.declared.window_decoder.WindowShape.{WindowShape}
use Rattle.tm_windows.specs.Queue.{IsRead, IsThere, Queueing, octets_of, shape_of, step_of, window_size}
use Rattle.tm_windows.specs.Windows.{block_counts, dropped_of, kept_of}
use Rattle.tm_windows.specs.declared.choosing.Chosen.{Chosen}
use Rattle.tm_inner.specs.Inner.{AreInnerBlocks, AreInnerDue, settings_of, soft_value}
use Rattle.tm_inner.specs.Phase.{IsChosen, IsChosenSoFar, IsSettled, skip_of}
use Rattle.tm_inner.specs.SymbolPlaces.{origin_by, symbols_before}
use Rattle.tm_inner.specs.InnerDecoding.{InnerDecoderStandsFor, InnerDecoding, origin_in, ready_in}
use Rattle.tm_inner.specs.declared.window.Window.{Window}

-- ---- by the octets that were received

-- what is said of the window of a block whose first step stands at this symbol, and whose octets
-- say this
abbrev pub window_of : (symbol : ℕ) → WindowBlock → SymbolCounts → Window
window_of symbol block counts = record {
  symbol = symbol;
  dropped = block.dropped;
  steps = block.steps;
  kept = block.kept;
  metric = block.metric;
  octets = counts.octets;
  wrong = counts.wrong;
  distance = counts.distance;
  squares = counts.squares;
}

-- where the first step of a block stands that comes after these
abbrev pub window_symbol : Configuration → (phase : ℕ) → List WindowBlock → WindowBlock → ℕ
window_symbol c phase before block =
    origin_by c.inner c phase (dropped_of before + block.dropped)
    + symbols_before c.inner (kept_of before)

-- of the octets from there on; with no inner code there are no windows
abbrev pub counts_at : Option Rate → Configuration → (symbol : ℕ) → List ℕ → List WindowBlock
    → WindowBlock → SymbolCounts
counts_at None c symbol received before block = none_counted
counts_at (Some rate) c symbol received before block = block_counts (settings_of c rate)
    (kept_of before) (map (soft_value c) (drop symbol received)) block

-- what is said of the window of a block of received octets, after these blocks
abbrev pub window_at : Configuration → (phase : ℕ) → List ℕ → List WindowBlock → WindowBlock
    → Window
window_at c phase received before block =
    window_of (window_symbol c phase before block) block
    (counts_at c.inner c (window_symbol c phase before block) received before block)

-- and of each of several blocks
abbrev pub windows_after : Configuration → (phase : ℕ) → List ℕ → List WindowBlock
    → List WindowBlock → List Window
windows_after c phase received before [] = []
windows_after c phase received before (block ∷ blocks) =
    window_at c phase received before block
    ∷ windows_after c phase received (before ++ block ∷ []) blocks

-- what is said of windows of received octets, which hang on the phase
pub record WindowsWith (Are : ℕ → List WindowBlock → Type 0) (c : Configuration) (octets : List ℕ)
    (windows : List Window) : Type 0 where
  pub chosen : Option Chosen
  pub choice : IsChosen c octets chosen
  pub blocks : List WindowBlock
  pub are_blocks : Are (skip_of chosen) blocks
  pub are : windows ≡ windows_after c (skip_of chosen) octets [] blocks

-- of all windows
abbrev pub AreWindows : Configuration → List ℕ → List Window → Type 0
AreWindows c octets = WindowsWith
    (λ phase blocks. (left : ℕ) × AreInnerBlocks c phase octets blocks left) c octets

-- of those that are due, whatever octets come: none before the phase is settled, and then of all
-- windows but the last
abbrev pub AreWindowsDue : Configuration → List ℕ → List Window → Type 0
AreWindowsDue c octets windows = ((IsSettled c octets → ⊥) × (windows ≡ []))
    ⊎ (IsSettled c octets
    × WindowsWith (λ phase blocks. AreInnerDue c phase octets blocks) c octets windows)

-- ---- by what a decoder keeps

-- where blocks are ready the octets of their windows are there
abbrev pub AreThere : Option Queueing → Type 0
AreThere None = Unit {0}
AreThere (Some queue) = 0 < length queue.ready → IsThere queue

-- and they are those that were put in, after the windows of these blocks
abbrev pub AreReadOf : Option Queueing → List ℕ → List WindowBlock → Type 0
AreReadOf None soft blocks = Unit {0}
AreReadOf (Some queue) soft blocks = 0 < length queue.ready → IsRead queue soft blocks

-- those of the window of one of them
abbrev pub octets_in : Option Queueing → ℕ → WindowBlock → List ℕ
octets_in None index block = []
octets_in (Some queue) index block = take (window_size queue index block) (octets_of queue index)

-- what they say of a block that is ready
abbrev pub counts_in : Configuration → Option Queueing → ℕ → WindowBlock → SymbolCounts
counts_in c None index block = none_counted
counts_in c (Some queue) index block = block_counts queue.windows.settings (step_of queue index)
    (octets_of queue index) block

-- the shape of its window
abbrev pub shape_in : Option Queueing → Option WindowShape
shape_in None = None
shape_in (Some queue) = Some (shape_of queue)

-- the number of its first step
abbrev pub step_in : Option Queueing → ℕ → ℕ
step_in None index = 0
step_in (Some queue) index = step_of queue index

abbrev pub no_block : WindowBlock
no_block = record {
  start = 0;
  steps = 0;
  kept = 0;
  metric = 0;
  bits = [];
  end_state = 0;
  dropped = 0;
}

abbrev pub block_in : InnerDecoding → ℕ → WindowBlock
block_in d index = slice_index_or (ready_in d.queue) index no_block

-- what is said of the window of the ready block of this number: octets are dropped before the first
-- of them alone
abbrev pub window_in : InnerDecoding → ℕ → Window
window_in d index = window_of (origin_in d + symbols_before d.config.inner (step_in d.queue index))
    (block_in d index) (counts_in d.config d.queue index (block_in d index))

-- the same of `count` ready blocks, from this number on
abbrev pub windows_from : InnerDecoding → (index count : ℕ) → List Window
windows_from d index zero = []
windows_from d index (suc count) = window_in d index ∷ windows_from d (suc index) count

abbrev pub windows_in : InnerDecoding → List Window
windows_in d = windows_from d 0 (length (ready_in d.queue))

-- ---- what was told

-- what is said of the windows that a decoder has decoded, of these octets put in
abbrev pub AreTold : InnerDecoding → List ℕ → List Window → Type 0
AreTold d given windows = (blocks : List WindowBlock) × InnerDecoderStandsFor d given blocks
    × (windows ≡ windows_after d.config (skip_of d.chosen) given [] blocks)

-- of these octets the blocks are those that are due, whatever octets come: none before the phase is
-- settled, and then those of all windows but the last
abbrev pub AreAllDue : InnerDecoding → List ℕ → List WindowBlock → Type 0
AreAllDue d given blocks = ((IsSettled d.config given → ⊥) × (blocks ≡ []))
    ⊎ (IsSettled d.config given × IsChosen d.config given d.chosen
    × AreInnerDue d.config (skip_of d.chosen) given blocks)

-- all windows that are due were decoded, whatever octets were put in
abbrev pub AreDecoded : InnerDecoding → Type 0
AreDecoded d = d.has_ended ≡ false → (given : List ℕ) (blocks : List WindowBlock)
    → InnerDecoderStandsFor d given blocks → IsChosenSoFar d.config given d.chosen
    → AreAllDue d given blocks

-- ---- of octets that come in pieces

-- with these octets, after those that were due before, these windows are due
abbrev pub AreFurtherWindows : Configuration → (given octets : List ℕ) → List Window → Type 0
AreFurtherWindows c given octets windows = (before : List Window) × AreWindowsDue c given before
    × AreWindowsDue c (given ++ octets) (before ++ windows)

-- at the end of the octets these are left
abbrev pub AreLastWindows : Configuration → List ℕ → List Window → Type 0
AreLastWindows c given windows = (before : List Window) × AreWindowsDue c given before
    × AreWindows c given (before ++ windows)
