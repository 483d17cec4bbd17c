use Rattle.std.proofs.Common.{rules, ◌∙◌, ◌∷◌, [], drop, ap, arith}
use Rattle.tm_base.specs.Marker.{marker_size}
use Rattle.tm_channel.specs.Receiving.{StoredCodeblock}
use Rattle.tm_channel.specs.Storing.{place_in, stored_in}
use Rattle.tm_config.specs.Configuration.{codeblock_length}
use Rattle.tm_channel.proofs.ExpectedItems.{first-set, first-stored}
use Rattle.tm_channel.proofs.expected.read_expected.Goals as goal

pub loop-count-init : goal.loop-count-init
loop-count-init c =
    let config = c.args.config.now in
    let some = c.requires.slots.0 in record {
      some = omega arith;
      count = search rules;
      at = omega (arith, c.requires.whole, c.codeblock_size-size.ensures.value);
      stored = first-set (stored_in (codeblock_length config)) c.args.slots.now c.fill.new.self some
          ∙ ap (λ (k : StoredCodeblock). k ∷ []) (first-stored config c.args.found c.codeblock_size-size.result
          c.fill.new.self (drop marker_size c.args.recent.now.bits) c.codeblock_size-size.ensures.value
          c.fill.ensures.stored);
      places = first-set place_in c.args.slots.now c.fill.new.self some ∙ ap (λ k. k ∷ []) c.fill.ensures.place;
    }
