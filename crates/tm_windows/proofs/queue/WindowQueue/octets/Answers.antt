use Rattle.std.proofs.Common.{◌≡◌, ◌≤◌, ◌∙◌, sym, ap, arith, length, slice_index_or, take}
use Rattle.std.proofs.lemmas.List.{length-take-le}
use Rattle.tm_viterbi.specs.WindowBlock.{WindowBlock}
use Rattle.tm_conv.specs.Path.{steps_size}
use Rattle.tm_windows.specs.Queue.{window_size}
use Rattle.tm_windows.proofs.ReadOctets.{first-few}
use Rattle.tm_windows.proofs.queue.WindowQueue.octets.Goals as goal
use Rattle.tm_windows.proofs.queue.WindowQueue.octets.Goals.{After-read_from, After-steps_len-size}

pub steps_len-size-requires : goal.steps_len-size-requires
steps_len-size-requires c =
    let q = c.args.self.now in
    omega (
      arith,
      first-few q c.args.index c.block.result c.requires.there c.requires.index,
      c.requires.there.kept c.args.index c.requires.index,
      c.step.ensures,
      ap (λ (b : WindowBlock). b.steps) (c.steps.view_is ∙ c.block.ensures c.block.result),
    )

-- how many octets the window has
size_is : (c : After-steps_len-size) (block : WindowBlock) → c.steps_len-size.result
    ≡ window_size c.args.self.now c.args.index (slice_index_or c.args.self.now.ready c.args.index block)
size_is c block =
    let same = c.steps.view_is ∙ c.block.ensures block in
    c.steps_len-size.ensures
    ∙ (λ i. steps_size ((c.self.view_is i).windows.settings.rate) (c.step.ensures i) ((same i).steps))

-- they are there
inside : (c : After-read_from) → c.steps_len-size.result ≤ length c.read_from.result.now
inside c =
    let size = size_is (goal.at.returns-clause-size c).After-steps_len-size c.block.result in
    omega (arith, size, c.read_from.ensures.room c.block.result)

pub slice_bounds-result-end : goal.slice_bounds-result-end
slice_bounds-result-end c = sym (length-take-le c.steps_len-size.result c.read_from.result.now (inside c))

pub returns-clause-octets : goal.returns-clause-octets
returns-clause-octets c = λ block.
    let size = size_is (goal.at.returns-clause-octets c).After-steps_len-size block in
    λ i. take (size i) (c.read_from.ensures.octets i)

pub returns-clause-size : goal.returns-clause-size
returns-clause-size c = λ block.
    length-take-le c.steps_len-size.result c.read_from.result.now (inside c)
    ∙ size_is (goal.at.returns-clause-size c).After-steps_len-size block
