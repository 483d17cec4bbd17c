use Rattle.std.proofs.Common.{◌≡◌, ◌∙◌, ◌++◌, length, take, ap, refl, arith, length-append, length-take}
use Rattle.tm_viterbi.specs.WindowBlock.{WindowBlock}
use Rattle.tm_inner.specs.InnerWindows.{block_in, no_block}
use Rattle.tm_buffers.proofs.bits.BufferBitsWindowWatch.window.Goals as goal

pub returns-clause-block : goal.returns-clause-block
returns-clause-block g c =
    let b = c.args.self.now in
    let e = c.put_bits-self.ensures in
    let block : WindowBlock = block_in c.args.inner.now c.args.index in
    let kept = take block.kept block.bits in
    let is : c.kept_bits.result.now ≡ kept = c.kept_bits.ensures no_block in (
      refl,
      λ size bits h. record {
        long = e.within.1 ∙ h.long;
        hold = λ fits.
            let all = length-append bits kept in
            let held = h.hold (omega (arith, fits, all)) in
            e.put (omega (arith, fits, all, h.long, ap length is, ap length held, length-take b.count b.bits.now, b.within))
            ∙ ap (λ more. take b.count b.bits.now ++ more) is ∙ ap (λ l. l ++ kept) held;
      },
    )
