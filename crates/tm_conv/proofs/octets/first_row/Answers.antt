use Rattle.std.proofs.Common.{sym, subst}
use Rattle.tm_conv.proofs.KeptSymbols.{AreRows, AreNext, next_at_half, next_at_two_thirds, next_at_three_quarters, next_at_five_sixths, next_at_seven_eighths, at_half, at_two_thirds, at_three_quarters, at_five_sixths, at_seven_eighths}
use Rattle.tm_conv.proofs.octets.first_row.Goals as goal

pub returns-in-R12-clause-rows : goal.returns-in-R12-clause-rows
returns-in-R12-clause-rows c = subst (AreRows 0) (sym c.in-R12.is) at_half

pub returns-in-R23-clause-rows : goal.returns-in-R23-clause-rows
returns-in-R23-clause-rows c = subst (AreRows 1) (sym c.in-R23.is) at_two_thirds

pub returns-in-R34-clause-rows : goal.returns-in-R34-clause-rows
returns-in-R34-clause-rows c = subst (AreRows 3) (sym c.in-R34.is) at_three_quarters

pub returns-in-R56-clause-rows : goal.returns-in-R56-clause-rows
returns-in-R56-clause-rows c = subst (AreRows 6) (sym c.in-R56.is) at_five_sixths

pub returns-in-R78-clause-rows : goal.returns-in-R78-clause-rows
returns-in-R78-clause-rows c = subst (AreRows 11) (sym c.in-R78.is) at_seven_eighths

pub returns-in-R12-clause-next : goal.returns-in-R12-clause-next
returns-in-R12-clause-next c = subst (AreNext 0) (sym c.in-R12.is) next_at_half

pub returns-in-R23-clause-next : goal.returns-in-R23-clause-next
returns-in-R23-clause-next c = subst (AreNext 1) (sym c.in-R23.is) next_at_two_thirds

pub returns-in-R34-clause-next : goal.returns-in-R34-clause-next
returns-in-R34-clause-next c = subst (AreNext 3) (sym c.in-R34.is) next_at_three_quarters

pub returns-in-R56-clause-next : goal.returns-in-R56-clause-next
returns-in-R56-clause-next c = subst (AreNext 6) (sym c.in-R56.is) next_at_five_sixths

pub returns-in-R78-clause-next : goal.returns-in-R78-clause-next
returns-in-R78-clause-next c = subst (AreNext 11) (sym c.in-R78.is) next_at_seven_eighths
