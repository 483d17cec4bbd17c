use Rattle.std.proofs.Common.{◌≡◌, ap, subst}
use Rattle.tm_driver.proofs.Writing.{took_out-more, took_out-one}
use Rattle.tm_viterbi.specs.WindowBlock.{WindowBlock}
use Rattle.tm_cert_file.specs.Window.{header_octets}
use Rattle.tm_cert_file.proofs.WindowTexts.{certified-parts}
use Rattle.tm_cert_file.proofs.writing.write_window.Goals as goal

pub returns : goal.returns
returns g c =
    let took = g.W.TextTaker.took in
    let head = subst (λ (b : WindowBlock). c.header.result ≡ header_octets b.steps b.kept b.start b.metric)
    c.block.view_is c.header.ensures in
    let all = c.write_columns.ensures c.args.block.now.steps c.requires.steps in (
      _,
      certified-parts c.args.rate c.args.invert c.args.start c.args.first c.args.octets.now c.args.block.now
          c.header.result _ all.0 head (ap (λ (b : WindowBlock). b.bits) c.block.view_is) all.1,
      took_out-more took _ _ _ _ _ (took_out-one took _ _ _ c.out.ensures) (took_out-more took _ _ _ _ _
          (took_out-one took _ _ _ c.out-2.ensures) (took_out-more took _ _ _ _ _
          (took_out-one took _ _ _ c.out-3.ensures) all.2)),
    )
