-- Where nothing was disturbed no octet is dropped, and symbols stand where they were sent.
use Rattle.std.proofs.Common.{◌≡◌, ◌==◌, ◌+◌, ◌-◌, ℕ, List, [], ◌∷◌, if◌then◌else◌, Bool, true, false, nat_lt, refl, ap, subst, arith, Option, Some, None}
use Rattle.std.proofs.lemmas.Bool.Decides.{nat_tests}
use Rattle.tm_base.specs.Bits.{bits_of}
use Rattle.tm_config.specs.Configuration.{Configuration}
use Rattle.tm_conv.specs.declared.rates.Rate.{Rate}
use Rattle.tm_conv.specs.Encoding.{bit_numbers}
use Rattle.tm_viterbi.specs.WindowBlock.{WindowBlock}
use Rattle.tm_viterbi.specs.Clean.{sure_symbols}
use Rattle.tm_windows.specs.Windows.{AreBlocksIn, dropped_to, slip_at, slips_of}
use Rattle.tm_windows.proofs.Undisturbed.{sure-blocks}
use Rattle.tm_inner.specs.Inner.{BlocksAt, windows_of}
use Rattle.tm_inner.specs.SymbolPlaces.{origin_by, symbols_before}
use Rattle.tm_inner.specs.Symbols.{symbols_by}
use Rattle.tm_inner.proofs.Counted.{whole-slips}
use Rattle.tm_inner.proofs.InnerBits.{AreBits-bit_numbers, soft-sent}

pub slips-sent : (rate : Option Rate) (c : Configuration) (octets : List ℕ) (blocks : List WindowBlock) (left : ℕ)
    → c.skip ≡ 0
    → BlocksAt rate c 0 (symbols_by rate c (bits_of octets)) blocks left → slips_of blocks ≡ 0
slips-sent None c octets blocks left none are = ap slips_of are.0
slips-sent (Some rate) c octets blocks left none are =
    let w = windows_of c rate in
    let bits = bit_numbers (bits_of octets) in
    whole-slips w.settings (sure_symbols w.settings 0 bits) blocks left
    (sure-blocks w 0 bits blocks left (AreBits-bit_numbers (bits_of octets)) (omega arith)
    (subst (λ (l : List ℕ). AreBlocksIn w l blocks left) (soft-sent c rate (bits_of octets) none) are))

-- where no slip is counted nothing is dropped
none-dropped : (dropped : ℕ) → slip_at dropped ≡ 0 → dropped ≡ 0
none-dropped dropped none = go (dropped == 0) (λ is. grind (arith, nat_tests)) none
  where
    go : (nothing : Bool) → (nothing ≡ true → dropped ≡ 0) → ◌≡◌ {A = ℕ} (if nothing then 0 else 1) 0
        → dropped ≡ 0
    go true is still = is refl
    go false is still = absurd (omega (arith, still))

dropped-none : (blocks : List WindowBlock) (n : ℕ) → slips_of blocks ≡ 0 → dropped_to blocks n ≡ 0
dropped-none [] n none = refl
dropped-none (block ∷ blocks) n none =
    let here = none-dropped block.dropped (omega (arith, none)) in
    let rest = dropped-none blocks (n - block.kept) (omega (arith, none)) in
    omega (
      arith,
      here,
      ap (λ (k : ℕ). if nat_lt n block.kept then 0 else k) rest,
      both (nat_lt n block.kept),
    )
  where
    both : (below : Bool) → ◌≡◌ {A = ℕ} (if below then 0 else 0) 0
    both true = refl
    both false = refl

-- with none skipped
pub clean-symbols : (c : Configuration) (rate : Option Rate) (blocks : List WindowBlock) → c.skip ≡ 0
    → slips_of blocks ≡ 0 → (n : ℕ)
    → origin_by rate c 0 (dropped_to blocks n) + symbols_before rate n ≡ symbols_before rate n
clean-symbols c None blocks none still n = omega (arith, none)
clean-symbols c (Some rate) blocks none still n = omega (arith, none, dropped-none blocks n still)
