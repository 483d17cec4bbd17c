use Rattle.std.proofs.Common.{Ok, Err, refl, sym}
use Rattle.tm_records.proofs.NearestWord.{all-digits, not_all-digits, octets-read}
use Rattle.tm_records.proofs.word_command.read_octets.Goals as goal

pub returns-in-Ok-clause-digits : goal.returns-in-Ok-clause-digits
returns-in-Ok-clause-digits c = sym (all-digits c.args.text.now _ _ (Ok tt) c.in-Ok.ensures.value refl)

pub returns-in-Ok-clause-octets : goal.returns-in-Ok-clause-octets
returns-in-Ok-clause-octets c = λ all. octets-read c.args.text.now _ _ (Ok tt) c.requires all c.in-Ok.ensures.value

pub returns-in-Err-clause-digits : goal.returns-in-Err-clause-digits
returns-in-Err-clause-digits c = sym (not_all-digits c.args.text.now _ _ c.in-Err.field-0 c.requires
    c.in-Err.ensures.value)

pub returns-in-Err-clause-octets : goal.returns-in-Err-clause-octets
returns-in-Err-clause-octets c = λ all. octets-read c.args.text.now _ _ (Err c.in-Err.field-0) c.requires all
    c.in-Err.ensures.value
