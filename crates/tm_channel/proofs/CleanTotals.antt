-- What octets come to that were sent and not disturbed, or complemented.
use Rattle.std.proofs.Common.{◌≡◌, ℕ, ◌*◌, Bool, List, length, Some, None, if◌then◌else◌, refl, ap, ◌∙◌, subst}
use Rattle.std.proofs.lemmas.List.{length-map}
use Rattle.tm_base.specs.Bits.{bits_of}
use Rattle.tm_base.specs.Handed.{Handed}
use Rattle.tm_base.proofs.Packing.{length-bits_of}
use Rattle.tm_config.specs.Accepted.{IsAccepted}
use Rattle.tm_config.specs.Configuration.{Configuration}
use Rattle.tm_conv.specs.declared.rates.Rate.TheVariants.{R12}
use Rattle.tm_viterbi.specs.declared.block.Start.TheVariants.{Any}
use Rattle.tm_viterbi.specs.WindowBlock.{WindowBlock}
use Rattle.tm_viterbi.specs.Clean.{complemented_octets}
use Rattle.tm_viterbi.proofs.HasBlocks.{HasBest}
use Rattle.tm_windows.specs.Windows.{slips_of}
use Rattle.tm_inner.specs.Inner.{AreInnerBlocks, Inner, IsStartKnown}
use Rattle.tm_inner.specs.Phase.{skip_of}
use Rattle.tm_inner.specs.Symbols.{symbols_of_octets}
use Rattle.tm_sync.specs.Bits.{flip}
use Rattle.tm_channel.specs.Sent.{cadus, sent}
use Rattle.tm_channel.specs.Items.{ItemValue}
use Rattle.tm_channel.specs.declared.totals.Totals.{Totals}
use Rattle.tm_channel.specs.Handing.{AreReceived, clean_totals, totals_of}
use Rattle.tm_channel.proofs.CleanSymbols.{slips-sent}
use Rattle.tm_channel.proofs.ComplementedOctets.{ComplementedBlocks, half-complemented, slips-complemented}
use Rattle.tm_channel.proofs.SentPhase.{Complements, phase-complemented, phase-sent, sent-skip}

-- ---- and all bits come

clean-is : (c : Configuration) (bits : List Bool) (blocks : List WindowBlock) (count : ℕ) → length bits ≡ count
    → slips_of blocks ≡ 0
    → totals_of c bits blocks ≡ clean_totals c count
clean-is c bits blocks count is none = λ i. record { bits = is i; slips = if c.follow then Some (none i) else None }

abbrev pub CleanBits : Type 0
CleanBits = (c : Configuration) (octets : List ℕ) (bits : List Bool) → IsAccepted c → c.skip ≡ 0 → IsStartKnown c
    → Inner c 0 (symbols_of_octets c octets) bits → bits ≡ bits_of octets

pub totals-clean : HasBest → CleanBits → (c : Configuration) (octets : List ℕ) (handed : List (Handed ItemValue))
    (totals : Totals) → IsAccepted c → c.skip ≡ 0 → IsStartKnown c
    → AreReceived c (sent c octets) handed totals → totals ≡ clean_totals c (8 * length (cadus c octets))
totals-clean best clean c octets handed totals ok none start r =
    let phase : skip_of r.chosen ≡ 0 = ap skip_of (phase-sent best c octets r.chosen none r.choice) ∙ sent-skip c in
    let all = r.are_items in
    let blocks = all.1.blocks in
    let are : AreInnerBlocks c 0 (sent c octets) blocks all.1.left =
    subst (λ (n : ℕ). AreInnerBlocks c n (sent c octets) blocks all.1.left) phase all.1.are_blocks in
    let bits : all.0 ≡ bits_of (cadus c octets) =
    clean c (cadus c octets) all.0 ok none start (record {
      blocks = blocks;
      left = all.1.left;
      are_blocks = are;
      are_bits = all.1.are_bits;
    }) in
    all.2 ∙ clean-is c all.0 blocks (8 * length (cadus c octets)) (ap length bits ∙ length-bits_of (cadus c octets))
    (slips-sent c.inner c (cadus c octets) blocks all.1.left none are)

pub totals-complemented : HasBest → Complements → ComplementedBlocks
    → (c : Configuration) (octets : List ℕ) (handed : List (Handed ItemValue)) (totals : Totals) → IsAccepted c
    → c.inner ≡ Some R12 → c.start ≡ Any → c.skip ≡ 0
    → AreReceived c (complemented_octets (sent c octets)) handed totals
    → totals ≡ clean_totals c (8 * length (cadus c octets))
totals-complemented best complements complemented c octets handed totals ok half any none r =
    let phase : skip_of r.chosen ≡ 0 = ap skip_of (phase-complemented best complements c octets r.chosen none r.choice)
    ∙ sent-skip c in
    let all = r.are_items in
    let blocks = all.1.blocks in
    let symbols = complemented_octets (sent c octets) in
    let are : AreInnerBlocks c 0 symbols blocks all.1.left =
    subst (λ (n : ℕ). AreInnerBlocks c n symbols blocks all.1.left) phase all.1.are_blocks in
    let bits = all.1.are_bits ∙ half-complemented complemented c c.inner
    (cadus c octets) blocks all.1.left refl ok half any none are in
    all.2 ∙ clean-is c all.0 blocks (8 * length (cadus c octets))
    (ap length bits ∙ length-map (bits_of (cadus c octets)) flip ∙ length-bits_of (cadus c octets))
    (slips-complemented c.inner c (cadus c octets) blocks all.1.left none are)
