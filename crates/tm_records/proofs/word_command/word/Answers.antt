use Rattle.std.proofs.Common.{[], refl, arith}
use Rattle.tm_driver.proofs.SinkTexts.{wrote-nothing, wrote-no_prefix}
use Rattle.tm_records.specs.Word.{word_text}
use Rattle.tm_records.proofs.NearestWord.{repaired-text, line-written, nearest-line, is_beyond, not_beyond}
use Rattle.tm_records.proofs.word_command.word.Goals as goal

pub returns-in-Fixed-clause-ends : goal.returns-in-Fixed-clause-ends
returns-in-Fixed-clause-ends g c noted =
    let near = repaired-text c.args.config.now c.args.text.now _ _ _ c.requires c.read_octets.ensures.octets
    c.repair-answer.ensures.nearest in (
      line-written c.args.config.now c.args.text.now _ _ near _ _ noted c.in-Ok.ensures.ok,
      omega arith,
      λ none. none,
      not_beyond c.args.config.now c.args.text.now _ _ _ near c.in-Fixed.is,
    )

pub returns-in-Beyond-clause-ends : goal.returns-in-Beyond-clause-ends
returns-in-Beyond-clause-ends g c noted =
    let near = repaired-text c.args.config.now c.args.text.now _ _ _ c.requires c.read_octets.ensures.octets
    c.repair-answer.ensures.nearest in (
      line-written c.args.config.now c.args.text.now _ _ near _ _ noted c.in-Ok.ensures.ok,
      omega arith,
      is_beyond c.args.config.now c.args.text.now _ _ near c.in-Beyond.is,
    )

pub returns-in-Err-clause-ends : goal.returns-in-Err-clause-ends
returns-in-Err-clause-ends g c noted =
    let near = repaired-text c.args.config.now c.args.text.now _ _ _ c.requires c.read_octets.ensures.octets
    c.repair-answer.ensures.nearest in (
      record { out = word_text c.repair-answer.result c.repair-answer.new.octets; notes = [] },
      (nearest-line c.args.config.now c.args.text.now _ _ near, refl),
      record { out = c.in-Err.ensures.err; notes = wrote-no_prefix noted [] },
      wrote-nothing noted,
    )
