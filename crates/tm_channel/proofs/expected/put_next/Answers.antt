use Rattle.std.proofs.Common.{◌∙◌}
use Rattle.tm_config.specs.Configuration.{codeblock_length}
use Rattle.tm_channel.specs.Storing.{place_in, stored_in}
use Rattle.tm_channel.proofs.ExpectedItems.{first-kept}
use Rattle.tm_channel.proofs.expected.put_next.Goals as goal

pub returns-clause-stored : goal.returns-clause-stored
returns-clause-stored g c =
    let r = c.read_expected-count in
    first-kept (stored_in (codeblock_length c.args.config.now)) r.result c.repair_expected.new.slots r.new.slots _
    r.ensures.count.0 r.ensures.count.1 c.repair_expected.ensures.stored ∙ r.ensures.stored

pub returns-clause-places : goal.returns-clause-places
returns-clause-places g c =
    let r = c.read_expected-count in
    first-kept place_in r.result c.repair_expected.new.slots r.new.slots _ r.ensures.count.0 r.ensures.count.1
    c.repair_expected.ensures.places ∙ r.ensures.places
