-- Windows that octets close have blocks.
use Rattle.std.proofs.Common.{◌≡◌, ℕ, zero, suc, ◌+◌, ◌-◌, ◌*◌, ◌<◌, ◌≤◌, ap, arith, refl, List, [], ◌∷◌, Option, Some, None, IsTrue, length, length-drop, take}
use Rattle.std.specs.Option.{ForSome}
use Rattle.std.proofs.lemmas.Bool.Decides.{nat_tests}
use Rattle.std.proofs.lemmas.List.{length-take-le}
use Rattle.tm_conv.specs.Path.{steps_size, path, register_after}
use Rattle.tm_conv.specs.Cost.{cost}
use Rattle.tm_conv.specs.Best.{IsBest}
use Rattle.tm_conv.proofs.Clean.{digits}
use Rattle.tm_conv.proofs.Paths.{steps_size-zero}
use Rattle.tm_conv.proofs.Sizes.{steps_size-le, steps_size-add}
use Rattle.tm_viterbi.specs.Starts.{starts_from}
use Rattle.tm_viterbi.specs.WindowBlock.{WindowBlock}
use Rattle.tm_viterbi.specs.Blocks.{IsBlock}
use Rattle.tm_viterbi.specs.Due.{Place, after_block}
use Rattle.tm_viterbi.specs.declared.window_decoder.WindowShape.{WindowShape}
use Rattle.tm_viterbi.proofs.CleanBlocks.{digits-take, register-small}
use Rattle.tm_viterbi.proofs.Closing.{full_window, full_kept}
use Rattle.tm_viterbi.proofs.HasBlocks.{HasBest}
use Rattle.tm_windows.specs.Candidates.{ClosesWith, ClosedWith}
use Rattle.tm_windows.proofs.Runs.{more_times, small_some}

pub some_start : (starts : Option ℕ) → ForSome starts (λ register. register < 64)
    → (register : ℕ) × (register < 64) × IsTrue (starts_from starts register)
some_start None are = (0, omega arith, refl)
some_start (Some register) are = (register, are register refl, grind (arith, nat_tests))

-- the block of a best path over a window
abbrev block_of : WindowShape → Place → ℕ → List ℕ → WindowBlock
block_of s at register bits = record {
  start = register;
  steps = s.keep + s.ahead;
  kept = s.keep;
  metric = cost (path s.rate s.invert at.t register bits) (take (steps_size s.rate at.t (s.keep + s.ahead)) at.octets);
  bits = bits;
  end_state = register_after register (take s.keep bits);
  dropped = 0;
}

is_block : (s : WindowShape) (at : Place) (register : ℕ) (bits : List ℕ)
    → IsBest (starts_from at.starts) s.rate s.invert at.t (take (steps_size s.rate at.t (s.keep + s.ahead)) at.octets)
    register bits
    → IsBlock s.rate s.invert s.keep s.ahead at.starts at.t (s.keep + s.ahead + 1) at.octets
    (block_of s at register bits)
is_block s at register bits best =
    record {
      steps = full_window s.keep s.ahead (s.keep + s.ahead) refl;
      kept = full_kept s.keep s.ahead;
      best = best;
      metric = refl;
      end_state = refl;
      dropped = refl;
    }

-- a window closes with some block, after which a path may go on
pub record HasBlock (s : WindowShape) (at : Place) : Type 0 where
  pub block : WindowBlock
  pub closes : ClosesWith s at block
  pub kept : block.kept ≡ s.keep
  pub small : block.end_state < 64

closes_with : (s : WindowShape) (at : Place) (register : ℕ) (bits : List ℕ)
    → steps_size s.rate at.t (s.keep + s.ahead + 1) ≤ length at.octets
    → IsBest (starts_from at.starts) s.rate s.invert at.t (take (steps_size s.rate at.t (s.keep + s.ahead)) at.octets)
    register bits → HasBlock s at
closes_with s at register bits room best = record {
  block = block_of s at register bits;
  closes = record { room = room; is_block = is_block s at register bits best };
  kept = refl;
  small = register-small register (take s.keep bits) best.candidate.register
      (digits-take s.keep bits (digits bits best.candidate.each));
}

pub has_block : HasBest → (s : WindowShape) (at : Place) → ForSome at.starts (λ register. register < 64)
    → steps_size s.rate at.t (s.keep + s.ahead + 1) ≤ length at.octets → HasBlock s at
has_block exists s at some room =
    let steps : ℕ = s.keep + s.ahead in
    let size : ℕ = steps_size s.rate at.t steps in
    let inside : size ≤ length at.octets = omega (
      arith,
      room,
      steps_size-le s.rate at.t steps (s.keep + s.ahead + 1)
          (omega arith),
    ) in
    let start = some_start at.starts some in
    let b = exists (starts_from at.starts) s.rate s.invert at.t steps start.0 (take size at.octets) start.2 start.1
    (length-take-le size at.octets inside) in
    closes_with s at b.0 b.1 room b.2

-- `count` windows close, one after another
pub record HasWindows (s : WindowShape) (at : Place) (count : ℕ) : Type 0 where
  pub blocks : List WindowBlock
  pub long : length blocks ≡ count
  pub to : Place
  pub closed : ClosedWith s at blocks to
  pub place : to.t ≡ at.t + count * s.keep
  pub octets : length to.octets ≡ length at.octets - steps_size s.rate at.t (count * s.keep)

pub has_windows : HasBest → (s : WindowShape) (count : ℕ) (at : Place) → ForSome at.starts (λ register. register < 64)
    → (0 < count → steps_size s.rate at.t (count * s.keep + s.ahead + 1) ≤ length at.octets) → HasWindows s at count
has_windows exists s zero at some room =
    let none : zero * s.keep ≡ 0 = omega arith in
    record {
      blocks = [];
      long = refl;
      to = at;
      closed = refl;
      place = omega (arith, none);
      octets = omega (arith, ap (steps_size s.rate at.t) none, steps_size-zero s.rate at.t);
    }
has_windows exists s (suc n) at some room =
    let all : ℕ = suc n * s.keep in
    let after_it : ℕ = n * s.keep + s.ahead + 1 in
    let number : suc n ≡ n + 1 = omega arith in
    let sum : all ≡ s.keep + n * s.keep = omega (arith, ap (λ (m : ℕ). m * s.keep) number, more_times n s.keep) in
    let whole : all + s.ahead + 1 ≡ s.keep + after_it = omega (arith, sum) in
    let fits : steps_size s.rate at.t s.keep + steps_size s.rate (at.t + s.keep) after_it ≤ length at.octets
    = omega (
      arith,
      room (omega arith),
      ap (steps_size s.rate at.t) whole,
      steps_size-add s.rate at.t s.keep after_it,
    ) in
    let one = steps_size-le s.rate at.t (s.keep + s.ahead + 1) (all + s.ahead + 1) (omega (arith, sum)) in
    let b = has_block exists s at some (omega (arith, room (omega arith), one)) in
    let next : Place = after_block s.rate at b.block in
    let step : next.t ≡ at.t + s.keep = ap (λ (m : ℕ). at.t + m) b.kept in
    let size : steps_size s.rate at.t b.block.kept ≡ steps_size s.rate at.t s.keep = ap
    (steps_size s.rate at.t) b.kept in
    let long = length-drop (steps_size s.rate at.t b.block.kept) at.octets in
    let there : (m : ℕ) → steps_size s.rate next.t m ≡ steps_size s.rate (at.t + s.keep) m = λ m. ap
    (λ (u : ℕ). steps_size s.rate u m) step in
    let rest = has_windows exists s n next (small_some b.block.end_state b.small)
    (λ _. omega (arith, long, size, there after_it, fits)) in
    record {
      blocks = b.block ∷ rest.blocks;
      long = omega (arith, rest.long);
      to = rest.to;
      closed = (b.closes, rest.closed);
      place = omega (arith, rest.place, step, sum);
      octets = omega (
        arith,
        rest.octets,
        long,
        size,
        there (n * s.keep),
        ap (steps_size s.rate at.t) sum,
        steps_size-add s.rate at.t s.keep (n * s.keep),
      );
    }
