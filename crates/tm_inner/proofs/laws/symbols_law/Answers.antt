use Rattle.tm_inner.proofs.SymbolPlaces.{symbol-stays}
use Rattle.tm_inner.proofs.laws.symbols_law.Goals as goal

pub returns : goal.returns
returns c = symbol-stays
