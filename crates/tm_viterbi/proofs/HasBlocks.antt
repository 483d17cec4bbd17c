-- Octets have blocks, where a window keeps a step or more.
use Rattle.std.proofs.Common.{◌≡◌, ℕ, zero, suc, ◌+◌, ◌-◌, ◌<◌, ◌≤◌, refl, ap, arith, List, [], ◌∷◌, Bool, Option, Some, IsTrue, length, take, drop, inl, inr}
use Rattle.std.proofs.lemmas.Bool.{cases_lt}
use Rattle.std.proofs.lemmas.Bool.Decides.{nat_tests}
use Rattle.std.proofs.lemmas.List.{length-take-le}
use Rattle.tm_conv.specs.declared.rates.Rate.{Rate}
use Rattle.tm_conv.specs.Path.{steps_size, path, register_after}
use Rattle.tm_conv.specs.Cost.{cost}
use Rattle.tm_conv.specs.Best.{IsBest}
use Rattle.tm_conv.proofs.Sizes.{steps_size_ge, steps_size-le}
use Rattle.tm_conv.proofs.Paths.{steps_size-zero}
use Rattle.tm_conv.proofs.Clean.{digits}
use Rattle.tm_viterbi.specs.declared.block.Start.{Start}
use Rattle.tm_viterbi.specs.declared.block.Start.TheVariants.{Zero, Any}
use Rattle.tm_viterbi.specs.Starts.{starts_from, first_start}
use Rattle.tm_viterbi.specs.Settings.{Settings}
use Rattle.tm_viterbi.specs.WindowBlock.{WindowBlock}
use Rattle.tm_viterbi.specs.Blocks.{IsBlock, AreBlocks, AreBlocksOf, AreSteps, window_steps, kept_steps}
use Rattle.tm_viterbi.proofs.OneList.{steps_after}
use Rattle.tm_viterbi.proofs.CleanBlocks.{digits-take, register-small}

-- octets of whole steps have a best path
abbrev pub HasBest : Type 0
HasBest = (starts : ℕ → Bool) (rate : Rate) (invert : Bool) (t steps start : ℕ) (octets : List ℕ)
    → IsTrue (starts start) → start < 64 → length octets ≡ steps_size rate t steps
    → (register : ℕ) × (bits : List ℕ) × IsBest starts rate invert t octets register bits

-- ---- whole steps

-- fewer octets than those of n+1 steps have some number of whole steps
steps_below : (rate : Rate) (t : ℕ) (octets : List ℕ) (n : ℕ) → length octets < steps_size rate t (n + 1)
    → (count : ℕ) × AreSteps rate t octets count
steps_below rate t octets zero most = (0, record { whole = omega (arith, steps_size-zero rate t); most = most })
steps_below rate t octets (suc n) most = elim (cases_lt (length octets) (steps_size rate t (n + 1))) [
  | inl less ↦ steps_below rate t octets n less
  | inr there ↦ (let next : suc n + 1 ≡ n + 1 + 1 = omega arith in
      (n + 1, record { whole = there; most = omega (arith, most, ap (steps_size rate t) next) }))
]

pub whole_steps : (rate : Rate) (t : ℕ) (octets : List ℕ) → (count : ℕ) × AreSteps rate t octets count
whole_steps rate t octets =
    steps_below rate t octets (length octets) (omega (arith, steps_size_ge rate t (length octets + 1)))

-- ---- one block

-- a path may start from this register
pub record HasStart (starts : Option ℕ) : Type 0 where
  pub register : ℕ
  pub is : IsTrue (starts_from starts register)
  pub small : register < 64

start_at : (register : ℕ) → register < 64 → HasStart (Some register)
start_at register small = record { register = register; is = grind (arith, nat_tests); small = small }

start_first : (start : Start) → HasStart (first_start start)
start_first Zero = start_at 0 (omega arith)
start_first Any = record { register = 0; is = refl; small = omega arith }

-- a block, after which a path may go on
pub record HasBlock (rate : Rate) (invert : Bool) (keep ahead : ℕ) (starts : Option ℕ) (t remaining : ℕ)
    (octets : List ℕ) : Type 0 where
  pub block : WindowBlock
  pub is : IsBlock rate invert keep ahead starts t remaining octets block
  pub small : block.end_state < 64

-- the block of a best path
block_of : (rate : Rate) (invert : Bool) (keep ahead : ℕ) (starts : Option ℕ) (t n : ℕ) (octets : List ℕ)
    (register : ℕ) (bits : List ℕ)
    → IsBest (starts_from starts) rate invert t (take (steps_size rate t (window_steps keep ahead n)) octets) register
    bits
    → HasBlock rate invert keep ahead starts t n octets
block_of rate invert keep ahead starts t n octets register bits best = record {
  block = record {
    start = register;
    steps = window_steps keep ahead n;
    kept = kept_steps keep ahead n;
    metric = cost (path rate invert t register bits) (take (steps_size rate t (window_steps keep ahead n)) octets);
    bits = bits;
    end_state = register_after register (take (kept_steps keep ahead n) bits);
    dropped = 0;
  };
  is = record { steps = refl; kept = refl; best = best; metric = refl; end_state = refl; dropped = refl };
  small =
      register-small register (take (kept_steps keep ahead n) bits) best.candidate.register
      (digits-take (kept_steps keep ahead n) bits (digits bits best.candidate.each));
}

pub has_block : HasBest → (rate : Rate) (invert : Bool) (keep ahead : ℕ) (starts : Option ℕ) (t n : ℕ) (octets : List ℕ)
    → HasStart starts → AreSteps rate t octets n → HasBlock rate invert keep ahead starts t n octets
has_block exists rate invert keep ahead starts t n octets start are =
    let steps : ℕ = window_steps keep ahead n in
    let size : ℕ = steps_size rate t steps in
    let inside : size ≤ length octets = omega (arith, are.whole, steps_size-le rate t steps n (omega arith)) in
    let b = exists (starts_from starts) rate invert t steps start.register (take size octets) start.is start.small
    (length-take-le size octets inside) in
    block_of rate invert keep ahead starts t n octets b.0 b.1 b.2

-- ---- all blocks

pub some_kept : (keep ahead n : ℕ) → 0 < keep → 0 < n → (0 < kept_steps keep ahead n) × (kept_steps keep ahead n ≤ n)
some_kept keep ahead n wide some = grind (arith, nat_tests)

-- at most `bound` steps have blocks
blocks_within : HasBest → (rate : Rate) (invert : Bool) (keep ahead : ℕ) (starts : Option ℕ) (t n : ℕ)
    (octets : List ℕ) (bound : ℕ) → 0 < keep → n ≤ bound
    → HasStart starts → AreSteps rate t octets n → (blocks : List WindowBlock)
    × AreBlocks rate invert keep ahead starts t n octets blocks
blocks_within exists rate invert keep ahead starts t n octets zero wide few start are = ([], omega arith)
blocks_within exists rate invert keep ahead starts t n octets (suc bound) wide few start are = elim (cases_lt 0 n) [
  | inr none ↦ ([], omega arith)
  | inl some ↦
      (let h = has_block exists rate invert keep ahead starts t n octets start are in
      let b = h.block in
      let kept = some_kept keep ahead n wide some in
      let le : b.kept ≤ n = omega (arith, h.is.kept, kept) in
      let more : (blocks : List WindowBlock) × AreBlocks rate invert keep ahead (Some b.end_state) (t + b.kept)
      (n - b.kept) (drop (steps_size rate t b.kept) octets) blocks =
      blocks_within exists rate invert keep ahead (Some b.end_state) (t + b.kept) (n - b.kept)
      (drop (steps_size rate t b.kept) octets) bound wide (omega (arith, h.is.kept, kept))
      (start_at b.end_state h.small) (steps_after rate t n b.kept octets le are) in
      (b ∷ more.0, (some, h.is, more.1)))
]

pub has_blocks : HasBest → (s : Settings) (octets : List ℕ) → 0 < s.keep → (blocks : List WindowBlock) × (left : ℕ)
    × AreBlocksOf s octets blocks left
has_blocks exists s octets wide =
    let n = whole_steps s.rate 0 octets in
    let b = blocks_within exists s.rate s.invert s.keep s.ahead (first_start s.start) 0 n.0 octets n.0 wide
    (omega arith) (start_first s.start) n.1 in (
      b.0,
      length octets - steps_size s.rate 0 n.0,
      record {
        count = n.0;
        steps = n.1;
        are = b.1;
        rest = omega (arith, n.1.whole);
      },
    )
