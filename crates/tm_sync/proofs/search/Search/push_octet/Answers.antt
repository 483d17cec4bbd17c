use Rattle.std.proofs.Common.{◌++◌, arith, subst}
use Rattle.std.proofs.lemmas.List.{append-nil}
use Rattle.tm_base.specs.Bits.{bits_of_octet}
use Rattle.tm_sync.specs.Searching.{SearchStandsFor}
use Rattle.tm_sync.proofs.search.Search.push_octet.Goals as goal

pub returns-in-Some-clause-stands : goal.returns-in-Some-clause-stands
returns-in-Some-clause-stands c = λ room bits found few h.
    subst (λ l. SearchStandsFor c.push_octets.new.self room (bits ++ l) found)
    (append-nil (bits_of_octet c.args.octet)) (c.push_octets.ensures.stands room bits found (omega arith) h)
