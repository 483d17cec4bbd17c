use Rattle.std.proofs.Common.{rules, List, Bool, drop, slice_get, ap, sym, arith, ◌∙◌}
use Rattle.std.specs.Option.{option_map}
use Rattle.std.proofs.lemmas.List.{nil_from_length}
use Rattle.tm_base.specs.Bits.{bits_of, bit_number}
use Rattle.tm_base.proofs.BitsLeft.{nothing-left, octet-left, bit-octet, bit-pending, rest-pending}
use Rattle.tm_base.proofs.bits.BitReader.next.Goals as goal

pub returns-then-self-gt0-clause-bit : goal.returns-then-self-gt0-clause-bit
returns-then-self-gt0-clause-bit c =
    bit-pending _ _ (bits_of c.self.inside.octets.now) c.args.self.now (omega arith) c.self.view_is

pub returns-then-self-gt0-clause-rest : goal.returns-then-self-gt0-clause-rest
returns-then-self-gt0-clause-rest c =
    rest-pending c.self.inside.pending c.self.inside.current (bits_of c.self.inside.octets.now) c.args.self.now
    (omega arith) c.self.view_is

pub returns-in-Some-clause-bit : goal.returns-in-Some-clause-bit
returns-in-Some-clause-bit c =
    bit-octet c.in-Some.first.now (bits_of c.in-Some.rest.now) c.args.self.now (omega arith)
    (octet-left _ _ _ _ _ _ (omega arith) (search rules) c.self.view_is)

pub returns-in-Some-clause-rest : goal.returns-in-Some-clause-rest
returns-in-Some-clause-rest c =
    rest-pending 8 c.in-Some.first.now (bits_of c.in-Some.rest.now) c.args.self.now (omega arith)
    (octet-left _ _ _ _ _ _ (omega arith) (search rules) c.self.view_is)

pub returns-in-None-clause-bit : goal.returns-in-None-clause-bit
returns-in-None-clause-bit c =
    ap (λ (l : List Bool). option_map bit_number (slice_get l 0))
    (sym (nothing-left _ _ _ _ (omega arith)
    (nil_from_length c.self.inside.octets.now c.in-None.ensures.cases) c.self.view_is))

pub returns-in-None-clause-rest : goal.returns-in-None-clause-rest
returns-in-None-clause-rest c =
    let none = nothing-left _ _ _ _ (omega arith)
    (nil_from_length c.self.inside.octets.now c.in-None.ensures.cases) c.self.view_is in none ∙ ap (drop 1) (sym none)
