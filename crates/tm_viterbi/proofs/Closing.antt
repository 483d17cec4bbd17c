-- Closed windows stay closed whatever octets come, and one more window may be closed after them.
use Rattle.std.proofs.Common.{◌≡◌, ℕ, ◌+◌, ◌≤◌, ◌∙◌, sym, ap, subst, arith, List, [], ◌∷◌, ◌++◌, Bool, take, length, length-append}
use Rattle.std.proofs.lemmas.List.{take-append-le, drop-append-le}
use Rattle.std.proofs.lemmas.Bool.Decides.{nat_tests}
use Rattle.tm_conv.specs.declared.rates.Rate.{Rate}
use Rattle.tm_conv.specs.Path.{steps_size, path}
use Rattle.tm_conv.specs.Best.{IsBest}
use Rattle.tm_conv.specs.Cost.{cost}
use Rattle.tm_viterbi.specs.Starts.{starts_from}
use Rattle.tm_viterbi.specs.WindowBlock.{WindowBlock}
use Rattle.tm_viterbi.specs.Blocks.{window_steps, kept_steps}
use Rattle.tm_viterbi.specs.Due.{Place, Closes, Closed, after_block}
use Rattle.tm_conv.proofs.Sizes.{steps_size-le}

unfoldable pub more_octets : Place → List ℕ → Place
more_octets at octets = record { starts = at.starts; t = at.t; octets = at.octets ++ octets }

pub full_window : (keep ahead filled : ℕ) → filled ≡ keep + ahead → filled ≡ window_steps keep ahead (keep + ahead + 1)
full_window keep ahead filled is = omega (arith, is)

pub full_kept : (keep ahead : ℕ) → keep ≡ kept_steps keep ahead (keep + ahead + 1)
full_kept keep ahead = grind (arith, nat_tests)

pub kept_is : (keep ahead : ℕ) → kept_steps keep ahead (keep + ahead + 1) ≡ keep
kept_is keep ahead = grind (arith, nat_tests)

pub kept_at : (keep ahead n : ℕ) → keep + ahead + 1 ≤ n → kept_steps keep ahead n ≡ keep
kept_at keep ahead n le = grind (arith, nat_tests)

pub Closes-append : (rate : Rate) (invert : Bool) (keep ahead : ℕ) (at : Place) (b : WindowBlock) (octets : List ℕ)
    → Closes rate invert keep ahead at b → Closes rate invert keep ahead (more_octets at octets) b
unfolding more_octets
Closes-append rate invert keep ahead at b octets h =
    let steps : b.steps ≡ keep + ahead = omega (arith, h.is_block.steps) in
    let inside : steps_size rate at.t b.steps ≤ length at.octets =
    omega (arith, h.room, steps_size-le rate at.t b.steps (keep + ahead + 1) (omega arith)) in
    let same : take (steps_size rate at.t b.steps) (at.octets ++ octets)
    ≡ take (steps_size rate at.t b.steps) at.octets =
    take-append-le (steps_size rate at.t b.steps) at.octets octets inside in
    let P : List ℕ → Type 0 = λ v. IsBest (starts_from at.starts) rate invert at.t v b.start b.bits
    × (b.metric ≡ cost (path rate invert at.t b.start b.bits) v) in
    let k = subst P (sym same) (h.is_block.best, h.is_block.metric) in
    record {
      room = omega (arith, h.room, length-append at.octets octets);
      is_block =
          record {
            steps = h.is_block.steps;
            kept = h.is_block.kept;
            best = k.0;
            metric = k.1;
            end_state = h.is_block.end_state;
            dropped = h.is_block.dropped;
          };
    }

pub after-append : (rate : Rate) (invert : Bool) (keep ahead : ℕ) (at : Place) (b : WindowBlock) (octets : List ℕ)
    → Closes rate invert keep ahead at b → after_block rate (more_octets at octets) b
    ≡ more_octets (after_block rate at b) octets
unfolding more_octets
after-append rate invert keep ahead at b octets h =
    let kept : b.kept ≡ keep = h.is_block.kept ∙ kept_is keep ahead in
    let inside : steps_size rate at.t b.kept ≤ length at.octets =
    omega (arith, h.room, steps_size-le rate at.t b.kept (keep + ahead + 1) (omega arith)) in
    ap (λ (v : List ℕ). let p : Place = record {
      starts = (after_block rate at b).starts;
      t = at.t + b.kept;
      octets = v;
    } in p) (drop-append-le (steps_size rate at.t b.kept) at.octets octets inside)

pub Closed-append : (rate : Rate) (invert : Bool) (keep ahead : ℕ) (from to : Place) (blocks : List WindowBlock)
    (octets : List ℕ)
    → Closed rate invert keep ahead from blocks to → Closed rate invert keep ahead (more_octets from octets) blocks
    (more_octets to octets)
Closed-append rate invert keep ahead from to [] octets h = ap (λ v. more_octets v octets) h
Closed-append rate invert keep ahead from to (b ∷ blocks) octets h = (
  Closes-append rate invert keep ahead from b octets h.0,
  subst (λ (v : Place). Closed rate invert keep ahead v blocks (more_octets to octets))
      (sym (after-append rate invert keep ahead from b octets h.0))
      (Closed-append rate invert keep ahead (after_block rate from b) to blocks octets h.1),
)

pub Closed-push : (rate : Rate) (invert : Bool) (keep ahead : ℕ) (from to : Place) (blocks : List WindowBlock)
    (b : WindowBlock)
    → Closed rate invert keep ahead from blocks to → Closes rate invert keep ahead to b
    → Closed rate invert keep ahead from (blocks ++ b ∷ []) (after_block rate to b)
Closed-push rate invert keep ahead from to [] b h is =
    (subst (λ (v : Place). Closes rate invert keep ahead v b) (sym h) is, ap (λ v. after_block rate v b) h)
Closed-push rate invert keep ahead from to (d ∷ blocks) b h is =
    (h.0, Closed-push rate invert keep ahead (after_block rate from d) to blocks b h.1 is)
