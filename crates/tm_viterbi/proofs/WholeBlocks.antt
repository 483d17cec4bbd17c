-- The blocks of the closed windows and the last one are the blocks of the definition.
use Rattle.std.proofs.Common.{◌≡◌, ℕ, ◌+◌, ◌-◌, ◌<◌, ◌≤◌, ◌∙◌, sym, ap, subst, arith, List, [], ◌∷◌, ◌++◌, Bool, length, length-drop, inl, inr}
use Rattle.std.proofs.lemmas.Bool.{cases_lt}
use Rattle.std.proofs.lemmas.Bool.Decides.{nat_tests}
use Rattle.tm_conv.specs.declared.rates.Rate.{Rate}
use Rattle.tm_conv.specs.Path.{steps_size, step_size}
use Rattle.tm_conv.proofs.Paths.{steps_size-zero, steps_size-more}
use Rattle.tm_viterbi.specs.Settings.{Settings}
use Rattle.tm_viterbi.specs.WindowBlock.{WindowBlock}
use Rattle.tm_viterbi.specs.Blocks.{IsBlock, AreBlocks, AreBlocksOf, kept_steps}
use Rattle.tm_viterbi.specs.Due.{Place, Closes, Closed, after_block, first_place}
use Rattle.tm_viterbi.proofs.Closing.{kept_is, kept_at}
use Rattle.tm_conv.proofs.Sizes.{steps_size-add, steps_size-le}

-- `count` steps lie between two places
pub record Between (rate : Rate) (from to : Place) (count : ℕ) : Type 0 where
  pub place : to.t ≡ from.t + count
  pub octets : length from.octets ≡ steps_size rate from.t count + length to.octets

Between-none : (rate : Rate) (from : Place) → Between rate from from 0
Between-none rate from = record { place = omega arith; octets = omega (arith, steps_size-zero rate from.t) }

Between-more : (rate : Rate) (invert : Bool) (keep ahead : ℕ) (from to : Place) (b : WindowBlock) (count : ℕ)
    → Closes rate invert keep ahead from b → Between rate (after_block rate from b) to count
    → Between rate from to (b.kept + count)
Between-more rate invert keep ahead from to b count closes h =
    let kept : b.kept ≡ keep = closes.is_block.kept ∙ kept_is keep ahead in
    let inside : steps_size rate from.t b.kept ≤ length from.octets =
    omega (arith, closes.room, steps_size-le rate from.t b.kept (keep + ahead + 1) (omega arith)) in
    record {
      place = omega (arith, h.place);
      octets =
          omega (
            arith,
            h.octets,
            inside,
            length-drop (steps_size rate from.t b.kept) from.octets,
            steps_size-add rate from.t b.kept count,
          );
    }

pub between : (rate : Rate) (invert : Bool) (keep ahead : ℕ) (from to : Place) (blocks : List WindowBlock)
    → Closed rate invert keep ahead from blocks to → (count : ℕ) × Between rate from to count
between rate invert keep ahead from to [] h =
    (0, subst (λ (v : Place). Between rate from v 0) h (Between-none rate from))
between rate invert keep ahead from to (b ∷ blocks) h =
    let rest = between rate invert keep ahead (after_block rate from b) to blocks h.1 in
    (b.kept + rest.0, Between-more rate invert keep ahead from to b rest.0 h.0 rest.1)

-- the octets of a place at which windows are closed have more than keep+ahead steps
room_for : (rate : Rate) (invert : Bool) (keep ahead : ℕ) (from to : Place) (b : WindowBlock) (count n m : ℕ)
    → Closes rate invert keep ahead from b → Between rate from to count
    → from.t + m ≡ to.t + n → length to.octets < steps_size rate to.t (n + 1) → keep + ahead + 1 ≤ m
room_for rate invert keep ahead from to b count n m closes h place most =
    elim (cases_lt m (keep + ahead + 1)) as (λ _. keep + ahead + 1 ≤ m) [
      | inr le ↦ le
      | inl lt ↦ (
          let sum : m + 1 ≡ count + (n + 1) = omega (arith, h.place) in
          let there : steps_size rate to.t (n + 1) ≡ steps_size rate (from.t + count) (n + 1) =
          ap (λ (t : ℕ). steps_size rate t (n + 1)) h.place in
          absurd (omega (
            arith,
            closes.room,
            h.octets,
            most,
            there,
            ap (steps_size rate from.t) sum,
            steps_size-add rate from.t count (n + 1),
            steps_size-le rate from.t (m + 1) (keep + ahead + 1) (omega arith),
          ))
          )
    ]

pub closed_block : (rate : Rate) (invert : Bool) (keep ahead : ℕ) (from : Place) (b : WindowBlock) (m : ℕ)
    → Closes rate invert keep ahead from b
    → keep + ahead + 1 ≤ m → IsBlock rate invert keep ahead from.starts from.t m from.octets b
closed_block rate invert keep ahead from b m closes big =
    let is = closes.is_block in
    record {
      steps = omega (arith, is.steps);
      kept = is.kept ∙ kept_is keep ahead ∙ sym (kept_at keep ahead m big);
      best = is.best;
      metric = is.metric;
      end_state = is.end_state;
      dropped = is.dropped;
    }

pub AreBlocks-closed : (rate : Rate) (invert : Bool) (keep ahead : ℕ) (from to : Place)
    (blocks last : List WindowBlock) (n m : ℕ)
    → Closed rate invert keep ahead from blocks to → from.t + m ≡ to.t + n
    → length to.octets < steps_size rate to.t (n + 1)
    → AreBlocks rate invert keep ahead to.starts to.t n to.octets last
    → AreBlocks rate invert keep ahead from.starts from.t m from.octets (blocks ++ last)
AreBlocks-closed rate invert keep ahead from to [] last n m h place most are =
    let same : n ≡ m = omega (arith, place, ap (λ (v : Place). v.t) h) in
    subst (λ (v : Place). AreBlocks rate invert keep ahead v.starts v.t m v.octets last) (sym h)
    (subst (λ (v : ℕ). AreBlocks rate invert keep ahead to.starts to.t v to.octets last) same are)
AreBlocks-closed rate invert keep ahead from to (b ∷ blocks) last n m h place most are =
    let c = between rate invert keep ahead from to (b ∷ blocks) h in
    let big : keep + ahead + 1 ≤ m = room_for rate invert keep ahead from to b c.0 n m h.0 c.1 place most in
    let kept : b.kept ≡ keep = h.0.is_block.kept ∙ kept_is keep ahead in
    let next : from.t + b.kept + (m - b.kept) ≡ to.t + n = omega (arith, kept, big, place) in (
      omega (arith, big),
      closed_block rate invert keep ahead from b m h.0 big,
      AreBlocks-closed rate invert keep ahead (after_block rate from b) to blocks last n
          (m - b.kept) h.1 next most are,
    )

pub from_zero : (rate : Rate) (a b : ℕ) → steps_size rate 0 (a + b) ≡ steps_size rate 0 a + steps_size rate a b
from_zero rate a b =
    let e : 0 + a ≡ a = omega arith in
    steps_size-add rate 0 a b ∙ ap (λ (t : ℕ). steps_size rate 0 a + steps_size rate t b) e

-- the blocks of closed windows, and those of the steps after them
pub all_blocks : (s : Settings) (all : List ℕ) (done last : List WindowBlock) (to : Place) (n left : ℕ)
    → Closed s.rate s.invert s.keep s.ahead (first_place s all) done to
    → length to.octets ≡ steps_size s.rate to.t n + left → left < step_size s.rate (to.t + n)
    → AreBlocks s.rate s.invert s.keep s.ahead to.starts to.t n to.octets last → AreBlocksOf s all (done ++ last) left
all_blocks s all done last to n left closed size less are =
    let c = between s.rate s.invert s.keep s.ahead (first_place s all) to done closed in
    let place : to.t ≡ c.0 = omega (arith, c.1.place) in
    let most : length to.octets < steps_size s.rate to.t (n + 1) =
    omega (arith, size, less, steps_size-more s.rate to.t n) in
    let there : steps_size s.rate to.t n ≡ steps_size s.rate c.0 n = ap (λ (t : ℕ). steps_size s.rate t n) place in
    let more : steps_size s.rate to.t (n + 1) ≡ steps_size s.rate c.0 (n + 1) =
    ap (λ (t : ℕ). steps_size s.rate t (n + 1)) place in
    let sum : c.0 + (n + 1) ≡ c.0 + n + 1 = omega arith in
    let octets : length all ≡ steps_size s.rate 0 c.0 + length to.octets = c.1.octets in
    let sum_of_steps : steps_size s.rate 0 (c.0 + n) ≡ steps_size s.rate 0 c.0 + steps_size s.rate c.0 n =
    from_zero s.rate c.0 n in
    let one_more : steps_size s.rate 0 (c.0 + (n + 1)) ≡ steps_size s.rate 0 c.0 + steps_size s.rate c.0 (n + 1) =
    from_zero s.rate c.0 (n + 1) in
    let long : length all ≡ steps_size s.rate 0 (c.0 + n) + left = omega (arith, octets, size, there, sum_of_steps) in
    record {
      count = c.0 + n;
      steps = record {
        whole = omega (arith, long, sum_of_steps);
        most = omega (arith, octets, most, more, one_more, ap (steps_size s.rate 0) sum);
      };
      are =
          AreBlocks-closed s.rate s.invert s.keep s.ahead (first_place s all) to done last n (c.0 + n) closed
          (omega (arith, place)) most are;
      rest = long;
    }

-- the steps of the last window are all kept
pub last_kept : (keep ahead n : ℕ) → n ≤ keep + ahead → n ≡ kept_steps keep ahead n
last_kept keep ahead n le = grind (arith, nat_tests)
