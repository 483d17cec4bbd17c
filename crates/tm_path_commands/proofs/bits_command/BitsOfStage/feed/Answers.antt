use Rattle.std.proofs.Common.{rules, ◌≡◌, ◌∙◌, [], ap, sym, subst}
use Rattle.std.proofs.lemmas.List.{append-nil}
use Rattle.tm_inner.proofs.ReadOctets.{hands-all}
use Rattle.tm_path_commands.specs.Packing.{Packs, plain_more}
use Rattle.tm_path_commands.proofs.BitsGathered.{gives-fed, same-loan}
use Rattle.tm_path_commands.proofs.PackedBits.{packs-more}
use Rattle.tm_path_commands.proofs.bits_command.BitsOfStage.feed.Goals as goal

pub returns-clause-goes_on : goal.returns-clause-goes_on
returns-clause-goes_on g c = λ _.
    let took = g.W.TextTaker.took in
    let d = c.args.self.now.inner in
    let w = c.watch_due in
    let packed = w.new.watch in
    let due = w.ensures.read in
    let now = w.new.inner in
    let piece = c.args.piece.now in
    let skip = c.bits_to_skip-skip.result in
    let plain = c.pack_plain.new in
    let last = c.give.new in
    let loan = same-loan took due.read.more _ packed due.read.handed in
    let packer : packed.packer.ghost_name ≡ _ = loan.0 in
    let texts : packed.texts.ghost_name ≡ _ = loan.1 in
    let more : Packs took packed.packer.now packed.texts.now (plain_more now.config.inner now.config skip piece)
    plain.packer plain.texts = search rules in
    let m = gives-fed took d _ packed last.self last.texts c.give.ensures.few now piece skip due.config
    c.bits_to_skip-skip.ensures (hands-all _ d now _ packed piece c.requires.ready due)
    (subst (λ l. Packs took packed.packer.now packed.texts.now l last.self last.texts)
    (append-nil (plain_more now.config.inner now.config skip piece)
    ∙ ap (λ k. plain_more k.inner k skip piece) due.config)
    (packs-more took packed.packer.now plain.packer last.self _ [] packed.texts.now plain.texts last.texts more
    c.give.ensures.given)) in
    record { texts = m.0; handed = m.1; stands = λ new given done few stood. m.2 new.inner.config given done few stood }

pub shape_of-self : goal.shape_of-self
shape_of-self g c =
    let due = c.watch_due.ensures.read.read in
    sym (same-loan g.W.TextTaker.took due.more _ c.watch_due.new.watch due.handed).0
