use Rattle.tm_channel.proofs.Repaired.{item-is, answers-are}
use Rattle.tm_channel.proofs.slot.Slot.write_item.Goals as goal

pub returns-clause-item : goal.returns-clause-item
returns-clause-item c =
    item-is c.args.config.now c.args.self.now _ _ c.args.self.now.octets c.args.words.now c.requires.decoded
    (answers-are c.args.config.now c.args.words.now c.write_answers.new.answers _ c.requires.words
    c.write_answers.ensures) c.fill_frame.ensures
