use Rattle.std.proofs.Common.{rules, ◌≡◌, ◌∙◌, [], refl, sym, subst}
use Rattle.std.proofs.lemmas.List.{append-nil}
use Rattle.tm_base.specs.Bits.{low_bits}
use Rattle.tm_driver.specs.Writing.{Note}
use Rattle.tm_path_commands.specs.Packing.{Packs}
use Rattle.tm_path_commands.proofs.BitsGathered.{gives-end, same-loan}
use Rattle.tm_path_commands.proofs.PackedBits.{packs-more}
use Rattle.tm_path_commands.proofs.bits_command.BitsOfStage.finish.Goals as goal

pub returns : goal.returns
returns g c =
    let took = g.W.TextTaker.took in
    let d = c.args.self.now.inner in
    let w = c.watch_last-end in
    let packed = w.new.watch in
    let read = w.ensures.read in
    let filled = c.add.new in
    let last = c.give.new in
    let loan = same-loan took read.last _ packed read.handed in
    let packer : packed.packer.ghost_name ≡ _ = loan.0 in
    let texts : packed.texts.ghost_name ≡ _ = loan.1 in
    let zeros : Packs took packed.packer.now packed.texts.now (low_bits 7 0) filled.self filled.texts = search rules in
    let m = gives-end took d _ packed last.self last.texts c.give.ensures.few w.new.inner w.result c.note.new.self read
    (subst (λ l. Packs took packed.packer.now packed.texts.now l last.self last.texts) (append-nil (low_bits 7 0))
    (packs-more took packed.packer.now filled.self last.self (low_bits 7 0) [] packed.texts.now filled.texts last.texts
    zeros c.give.ensures.given))
    (subst (λ l. took last.texts (Note l) c.note.new.self) (c.octets.ensures ∙ c.bits_end_text-line.ensures)
    c.note.ensures) in
    record {
      texts = m.0;
      handed = m.1;
      finished = λ new given done few stood. (refl, m.2 new.inner.config given done few stood);
    }

pub shape_of-self : goal.shape_of-self
shape_of-self g c =
    let read = c.watch_last-end.ensures.read in
    sym (same-loan g.W.TextTaker.took read.last _ c.watch_last-end.new.watch read.handed).0
