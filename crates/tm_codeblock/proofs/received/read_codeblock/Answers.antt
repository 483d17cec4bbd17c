use Rattle.std.proofs.Common.{◌≡◌, ◌∙◌, ◌<◌, sym, rules}
use Rattle.std.proofs.lemmas.List.Elements.{All-from_get_or}
use Rattle.tm_base.specs.Bits.{bits_of, octets_of}
use Rattle.tm_sync.specs.Bits.{in_polarity}
use Rattle.tm_codeblock.proofs.Complemented.{upright-complemented, upright-same, codeblock-masked, codeblock-plain}
use Rattle.tm_codeblock.proofs.received.read_codeblock.Goals as goal
use Rattle.tm_codeblock.proofs.received.read_codeblock.Goals.{After-is_randomized, then-inverted, else-inverted}

-- what was received, in the polarity of the codeblock
upright : (c : After-is_randomized) → c.if-inverted.codeblock
    ≡ octets_of (in_polarity c.args.inverted (bits_of c.args.codeblock.now))
upright c =
    let before = c.args.codeblock.now in
    elim c.if-inverted.branch [
      | then-inverted w ↦ upright-complemented c.args.inverted before _ w.if-inverted.true
          (w.codeblock-is ∙ w.complement_octets.ensures)
      | else-inverted w ↦ upright-same c.args.inverted before _
          (All-from_get_or (λ octet. octet < 256) before 0 (λ n within. search rules))
          w.if-inverted.false w.codeblock-is
    ]

pub returns-then-is_randomized : goal.returns-then-is_randomized
returns-then-is_randomized c =
    codeblock-masked c.args.config.now c.args.inverted (bits_of c.args.codeblock.now) c.if-inverted.codeblock _
    (sym c.is_randomized.ensures ∙ c.if-is_randomized.true)
    (upright (goal.at.returns-then-is_randomized c).After-is_randomized) c.mask.ensures

pub returns-else-is_randomized : goal.returns-else-is_randomized
returns-else-is_randomized c =
    codeblock-plain c.args.config.now c.args.inverted (bits_of c.args.codeblock.now) c.if-inverted.codeblock
    (sym c.is_randomized.ensures ∙ c.if-is_randomized.false)
    (upright (goal.at.returns-else-is_randomized c).After-is_randomized)
