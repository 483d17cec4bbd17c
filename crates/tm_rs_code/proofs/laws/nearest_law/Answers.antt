use Rattle.tm_rs_code.proofs.HasNearest.{correctable-is, has_nearest}
use Rattle.tm_rs_code.proofs.OnlyNearest.{nearest_only}
use Rattle.tm_rs_code.proofs.laws.nearest_law.Goals as goal

pub returns-clause-exists : goal.returns-clause-exists
returns-clause-exists c e bound w = has_nearest e bound w

pub returns-clause-one : goal.returns-clause-one
returns-clause-one c e bound w a b within short h l = nearest_only e bound w a b within short h l

pub returns-clause-tells : goal.returns-clause-tells
returns-clause-tells c e bound w a is = correctable-is e bound w a is
