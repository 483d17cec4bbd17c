use Rattle.tm_conv.proofs.LeastColumns.{IsColumn-exists, IsColumn-unique, IsColumn-first, IsColumn-edge, IsColumn-least, IsColumn-most}
use Rattle.tm_conv.proofs.laws.columns_law.Goals as goal

pub returns-clause-exists : goal.returns-clause-exists
returns-clause-exists c = IsColumn-exists

pub returns-clause-one : goal.returns-clause-one
returns-clause-one c = IsColumn-unique

pub returns-clause-first : goal.returns-clause-first
returns-clause-first c = IsColumn-first

pub returns-clause-edge : goal.returns-clause-edge
returns-clause-edge c = IsColumn-edge

pub returns-clause-least : goal.returns-clause-least
returns-clause-least c = IsColumn-least

pub returns-clause-most : goal.returns-clause-most
returns-clause-most c = IsColumn-most
