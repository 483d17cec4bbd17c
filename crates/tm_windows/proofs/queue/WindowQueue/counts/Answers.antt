use Rattle.std.proofs.Common.{◌≡◌, ◌≤◌, ◌∙◌, sym, ap, subst, arith, length, slice_index_or}
use Rattle.std.proofs.lemmas.List.{length-take}
use Rattle.tm_conv.specs.Path.{AreBits, steps_size}
use Rattle.tm_conv.proofs.Sizes.{steps_size-le}
use Rattle.tm_viterbi.specs.WindowBlock.{WindowBlock}
use Rattle.tm_windows.specs.Queue.{step_of}
use Rattle.tm_windows.proofs.ReadOctets.{first-few}
use Rattle.tm_windows.proofs.queue.WindowQueue.counts.Goals as goal
use Rattle.tm_windows.proofs.queue.WindowQueue.counts.Goals.{After-kept_bits-bits}

-- there are no more bits than the window has steps
short : (c : After-kept_bits-bits) → (let block = slice_index_or c.args.self.now.ready c.args.index c.block.result in
    (length c.kept_bits-bits.result.now ≤ block.kept) × (length c.kept_bits-bits.result.now ≤ block.steps))
short c =
    let block = slice_index_or c.args.self.now.ready c.args.index c.block.result in
    let bits : length c.kept_bits-bits.result.now ≤ block.kept =
    omega (arith, ap length (c.kept_bits-bits.ensures c.block.result), length-take block.kept block.bits) in
    (bits, omega (arith, bits, (c.requires.there.paths c.args.index c.block.result c.requires.index).kept))

pub symbol_counts-requires-clause-register : goal.symbol_counts-requires-clause-register
symbol_counts-requires-clause-register c =
    let is = ap (λ (b : WindowBlock). b.start) (c.register.view_is ∙ c.block.ensures c.block.result) in
    omega (arith, is, (c.requires.there.paths c.args.index c.block.result c.requires.index).start)

pub symbol_counts-requires-clause-bits : goal.symbol_counts-requires-clause-bits
symbol_counts-requires-clause-bits c =
    subst AreBits (sym (c.kept_bits-bits.ensures c.block.result))
    (c.requires.there.paths c.args.index c.block.result c.requires.index).bits

pub symbol_counts-requires-clause-few : goal.symbol_counts-requires-clause-few
symbol_counts-requires-clause-few c =
    let bits = short (goal.at.symbol_counts-requires-clause-few c).After-kept_bits-bits in
    let block_is = c.register.view_is ∙ c.block.ensures c.block.result in (
      omega (arith, bits.0, ap (λ (b : WindowBlock). b.kept) block_is),
      omega (
        arith,
        bits.1,
        first-few c.args.self.now c.args.index c.block.result c.requires.there c.requires.index,
        c.requires.there.kept c.args.index c.requires.index,
        c.step-t.ensures,
      ),
    )

pub symbol_counts-requires-clause-octets : goal.symbol_counts-requires-clause-octets
symbol_counts-requires-clause-octets c =
    let q = c.args.self.now in
    let bits = length c.kept_bits-bits.result.now in
    let same : steps_size c.self.inside.settings.shape.rate c.step-t.result bits
    ≡ steps_size q.windows.settings.rate (step_of q c.args.index) bits =
    λ i. steps_size ((c.self.view_is i).windows.settings.rate) (c.step-t.ensures i) bits in
    omega (
      arith,
      same,
      c.read_from.ensures.room c.block.result,
      steps_size-le q.windows.settings.rate (step_of q c.args.index) bits
          (slice_index_or q.ready c.args.index c.block.result).steps
          (short (goal.at.symbol_counts-requires-clause-octets c).After-kept_bits-bits).1,
    )
