use Rattle.tm_conv.proofs.Clean.{clean_symbols}
use Rattle.tm_conv.proofs.laws.clean_symbols_law.Goals as goal

pub returns : goal.returns
returns c = clean_symbols
