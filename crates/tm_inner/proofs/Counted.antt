-- What is counted of blocks.
use Rattle.std.proofs.Common.{◌≡◌, ◌∙◌, ℕ, ◌-◌, ◌+◌, ◌==◌, List, [], ◌∷◌, length, drop, Bool, Option, Some, None, refl, ap, arith}
use Rattle.std.proofs.lemmas.List.{length-map}
use Rattle.tm_config.specs.Configuration.{Configuration}
use Rattle.tm_conv.specs.declared.rates.Rate.{Rate}
use Rattle.tm_conv.specs.Path.{steps_size}
use Rattle.tm_viterbi.specs.Settings.{Settings}
use Rattle.tm_viterbi.specs.Starts.{first_start}
use Rattle.tm_viterbi.specs.WindowBlock.{WindowBlock}
use Rattle.tm_viterbi.specs.Blocks.{AreBlocks, AreBlocksOf}
use Rattle.tm_viterbi.specs.Clean.{kept_bits}
use Rattle.tm_windows.specs.Windows.{slip_at, slips_of, kept_of}
use Rattle.tm_inner.specs.Inner.{windows_of, soft_octets, BlocksAt, AreInnerBlocks, bits_at, inner_bits}
use Rattle.tm_inner.proofs.FollowedBits.{followed-whole}

-- ---- where nothing is dropped before a window

pub blocks-slips : (rate : Rate) (invert : Bool) (keep ahead : ℕ) (starts : Option ℕ) (t n : ℕ) (octets : List ℕ)
    (blocks : List WindowBlock)
    → AreBlocks rate invert keep ahead starts t n octets blocks → slips_of blocks ≡ 0
blocks-slips rate invert keep ahead starts t n octets [] are = refl
blocks-slips rate invert keep ahead starts t n octets (b ∷ blocks) are = omega (
  arith,
  ap slip_at are.1.dropped,
  blocks-slips rate invert keep ahead (Some b.end_state) (t + b.kept) (n - b.kept)
      (drop (steps_size rate t b.kept) octets) blocks are.2,
)

pub whole-slips : (s : Settings) (octets : List ℕ) (blocks : List WindowBlock) (left : ℕ)
    → AreBlocksOf s octets blocks left → slips_of blocks ≡ 0
whole-slips s octets blocks left are =
    blocks-slips s.rate s.invert s.keep s.ahead (first_start s.start) 0 are.count octets blocks are.are

-- ---- how many bits blocks keep

kept-at : (rate : Option Rate) (c : Configuration) (phase : ℕ) (given : List ℕ) (blocks : List WindowBlock) (left : ℕ)
    → (rate ≡ None → ⊥)
    → BlocksAt rate c phase given blocks left → length (bits_at rate c given blocks) ≡ kept_of blocks
kept-at None c phase given blocks left some are = absurd (some refl)
kept-at (Some rate) c phase given blocks left some are =
    let w = windows_of c rate in
    length-map (kept_bits blocks) (λ bit. bit == 1) ∙ (followed-whole w (soft_octets c phase given) blocks left are).bits

pub inner-kept : (c : Configuration) (phase : ℕ) (given : List ℕ) (blocks : List WindowBlock) (left : ℕ)
    → (c.inner ≡ None → ⊥)
    → AreInnerBlocks c phase given blocks left → length (inner_bits c given blocks) ≡ kept_of blocks
inner-kept c = kept-at c.inner c
