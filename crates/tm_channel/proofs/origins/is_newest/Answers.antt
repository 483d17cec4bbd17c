use Rattle.std.proofs.Common.{◌∙◌, sym, arith}
use Rattle.std.proofs.lemmas.Bool.Decides.{nat_tests}
use Rattle.tm_channel.proofs.OriginRoom.{newest-is, newest-none}
use Rattle.tm_channel.proofs.origins.is_newest.Goals as goal

pub returns-then-is_empty : goal.returns-then-is_empty
returns-then-is_empty c =
    let empty = sym c.is_empty.ensures ∙ c.if-is_empty.true in
    newest-none c.args.octets c.args.origins.now (grind (arith, nat_tests))

pub returns : goal.returns
returns c =
    let some = sym c.is_empty.ensures ∙ c.if-is_empty.false in
    newest-is c.args.octets c.args.origins.now _ (grind (arith, nat_tests))
