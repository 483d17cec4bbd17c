use Rattle.std.proofs.Common.{◌∙◌, ◌++◌, Bool, take, drop, sym, ap}
use Rattle.tm_base.specs.SoftForm.{from_form}
use Rattle.tm_windows.proofs.Queues.{unconverted}
use Rattle.tm_windows.proofs.queue.convert.Goals as goal

pub returns-then-is_signed-clause-octets : goal.returns-then-is_signed-clause-octets
returns-then-is_signed-clause-octets c =
    let octets = c.args.held.now.octets in
    let first = c.args.first in
    c.to_unsigned.ensures.octets
    ∙ ap (λ (form : Bool). take first octets ++ from_form form (drop first octets)) (sym c.if-is_signed.true)

pub returns-else-is_signed-clause-octets : goal.returns-else-is_signed-clause-octets
returns-else-is_signed-clause-octets c =
    let octets = c.args.held.now.octets in
    let first = c.args.first in
    unconverted first octets
    ∙ ap (λ (form : Bool). take first octets ++ from_form form (drop first octets)) (sym c.if-is_signed.false)
