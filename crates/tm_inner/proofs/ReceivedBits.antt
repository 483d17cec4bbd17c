-- How many bits octets come to.
use Rattle.std.proofs.Common.{◌≡◌, ℕ, ◌+◌, ◌-◌, ◌≤◌, Bool, List, [], ◌∷◌, length, take, drop, sym, ap, ◌∙◌, subst, arith, Option, Some, None, length-append, length-drop, length-take}
use Rattle.std.proofs.lemmas.List.{length-map}
use Rattle.std.proofs.lemmas.Bool.Decides.{nat_tests}
use Rattle.tm_config.specs.Configuration.{Configuration}
use Rattle.tm_conv.specs.declared.rates.Rate.{Rate}
use Rattle.tm_conv.specs.Path.{steps_size}
use Rattle.tm_conv.proofs.Paths.{length-path}
use Rattle.tm_conv.proofs.Sizes.{same_from_steps_size, steps_size-add}
use Rattle.tm_viterbi.specs.WindowBlock.{WindowBlock}
use Rattle.tm_viterbi.specs.Blocks.{IsBlock, AreBlocks, kept_steps, window_steps}
use Rattle.tm_viterbi.specs.Clean.{kept_bits}
use Rattle.tm_viterbi.proofs.CleanBlocks.{steps-mono}
use Rattle.tm_inner.proofs.PlainBits.{length-plain}
use Rattle.tm_inner.specs.Inner.{soft_value, soft_octets, plain_bits, plain_count, bits_at, inner_bits}

-- ---- blocks keep a bit for each step

pub kept-le : (keep ahead n : ℕ) → kept_steps keep ahead n ≤ window_steps keep ahead n
kept-le keep ahead n = grind (arith, nat_tests)

-- a block has a bit for each step
pub block-bits : (rate : Rate) (invert : Bool) (keep ahead : ℕ) (starts : Option ℕ) (t n : ℕ) (octets : List ℕ)
    (b : WindowBlock) → steps_size rate t n ≤ length octets
    → IsBlock rate invert keep ahead starts t n octets b → length b.bits ≡ b.steps
block-bits rate invert keep ahead starts t n octets b whole is =
    let inside : steps_size rate t b.steps ≤ length octets =
    omega (arith, whole, steps-mono rate t b.steps n (omega (arith, is.steps))) in
    let size : steps_size rate t (length b.bits) ≡ steps_size rate t b.steps =
    sym (length-path rate invert t b.start b.bits) ∙ is.best.candidate.covers
    ∙ omega (arith, inside, length-take (steps_size rate t b.steps) octets) in
    same_from_steps_size rate t (length b.bits) b.steps size

pub kept-count : (rate : Rate) (invert : Bool) (keep ahead : ℕ) (starts : Option ℕ) (t n : ℕ) (octets : List ℕ)
    (blocks : List WindowBlock) → steps_size rate t n ≤ length octets
    → AreBlocks rate invert keep ahead starts t n octets blocks → length (kept_bits blocks) ≡ n
kept-count rate invert keep ahead starts t n octets [] whole are = sym are
kept-count rate invert keep ahead starts t n octets (b ∷ blocks) whole are =
    let is = are.1 in
    let less : b.kept ≤ b.steps = omega (arith, is.kept, is.steps, kept-le keep ahead n) in
    let most : b.steps ≤ n = omega (arith, is.steps) in
    let sum : b.kept + (n - b.kept) ≡ n = omega arith in
    let rest : steps_size rate (t + b.kept) (n - b.kept) ≤ length (drop (steps_size rate t b.kept) octets) =
    omega (
      arith,
      whole,
      length-drop (steps_size rate t b.kept) octets,
      steps_size-add rate t b.kept (n - b.kept),
      ap (steps_size rate t) sum,
    ) in
    let after = kept-count rate invert keep ahead (Some b.end_state) (t + b.kept) (n - b.kept)
    (drop (steps_size rate t b.kept) octets) blocks rest are.2 in
    let prefix : length (take b.kept b.bits) ≡ b.kept = omega
    (arith, length-take b.kept b.bits, block-bits rate invert keep ahead starts t n octets b whole is) in
    omega (arith, length-append (take b.kept b.bits) (kept_bits blocks), prefix, after)

-- ---- the bits of octets

pub length-soft : (c : Configuration) (phase : ℕ) (given : List ℕ)
    → length (soft_octets c phase given) ≡ length given - c.skip - phase
length-soft c phase given =
    length-map (drop phase (drop c.skip given)) (soft_value c)
    ∙ omega (arith, length-drop phase (drop c.skip given), length-drop c.skip given)

pub bits-plain : (c : Configuration) (n m : ℕ) (given : List ℕ) (blocks : List WindowBlock) → c.inner ≡ None
    → length given ≡ n
    → m ≡ plain_count c n - c.skip → m ≡ length (inner_bits c given blocks)
bits-plain c n m given blocks none long is =
    subst (λ (r : Option Rate). m ≡ length (bits_at r c given blocks)) (sym none)
    (omega (arith, is, ap (plain_count c) long, length-drop c.skip (plain_bits c given), length-plain c given))
