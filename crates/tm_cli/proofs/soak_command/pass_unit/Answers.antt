use Rattle.std.proofs.Common.{arith, length-take}
use Rattle.tm_cli.proofs.Soaking.{unit-few, unit-received}
use Rattle.tm_cli.proofs.soak_command.pass_unit.Goals as goal

pub returns-clause-few : goal.returns-clause-few
returns-clause-few g c = λ given stands.
    let s = c.symbols-count in
    unit-few c.args.sender.now s.new.self given c.args.unit.now _ s.ensures.made stands
    (omega (arith, s.ensures.fits, length-take s.result s.new.room))

pub returns-clause-handed : goal.returns-clause-handed
returns-clause-handed g c = λ config given stands was.
    let s = c.symbols-count in
    let r = c.receive in
    unit-received config c.args.sender.now s.new.self c.args.receiver.now r.new.receiver c.args.counts.now
    r.new.items given c.args.unit.now _ s.ensures.made stands r.ensures.config r.ensures.handed was
