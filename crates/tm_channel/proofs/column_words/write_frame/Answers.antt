use Rattle.std.proofs.Common.{◌∙◌, ◌/◌, arith}
use Rattle.std.proofs.lemmas.Grind.{common_steps}
use Rattle.tm_base.proofs.Octets.{are_octets}
use Rattle.tm_channel.proofs.ColumnsRead.{all-written, left-column}
use Rattle.tm_channel.proofs.column_words.write_frame.Goals as goal
use Rattle.tm_channel.proofs.column_words.write_frame.Goals.{then-is_repaired, else-is_repaired}

pub loop-i-preserved : goal.loop-i-preserved
loop-i-preserved c = elim c.if-is_repaired.branch [
  | then-is_repaired w ↦ grind (arith, common_steps)
  | else-is_repaired w ↦
      let left = left-column c.args.config.now c.args.codeblock.now c.args.words.now c.basis_of-basis.result
      c.depth-depth.result (c.length.result / c.depth-depth.result) c.loop-i.i _ c.copy_from_slice.new.self
      c.requires.coded c.depth-depth.ensures.value (λ k. c.length.ensures.value k / c.depth-depth.ensures.value k)
      c.basis_of-basis.ensures (are_octets c.args.codeblock.now (λ i. omega (arith, c.type_inv.codeblock i)))
      c.requires.words c.copy_from_slice.ensures.after
      (c.copy_from_slice.ensures.len ∙ c.requires.frame ∙ c.depth-depth.ensures.accepted.whole) c.requires.decoded
      c.loop-i-test.true (c.is_repaired.ensures w.if-is_repaired.false) in
      grind (arith, common_steps, left)
]

pub returns : goal.returns
returns c =
    let accepted = c.depth-depth.ensures.accepted in
    all-written c.args.config.now c.args.codeblock.now c.args.words.now c.basis_of-basis.result c.depth-depth.result
    (c.length.result / c.depth-depth.result) c.loop-i.frame c.requires.coded accepted.some_depth
    c.depth-depth.ensures.value (λ k. c.length.ensures.value k / c.depth-depth.ensures.value k)
    c.basis_of-basis.ensures c.requires.words
    (c.loop-i.invariant.long ∙ c.copy_from_slice.ensures.len ∙ c.requires.frame ∙ accepted.whole)
    (λ i below. c.loop-i.invariant.written i (omega (arith, below, c.loop-i-test.false)))
