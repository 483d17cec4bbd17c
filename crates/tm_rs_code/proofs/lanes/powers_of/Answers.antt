use Rattle.tm_rs_code.proofs.PowerRows.{powers_are}
use Rattle.tm_rs_code.proofs.lanes.powers_of.Goals as goal

pub returns : goal.returns
returns c = powers_are c.args.group c.requires
