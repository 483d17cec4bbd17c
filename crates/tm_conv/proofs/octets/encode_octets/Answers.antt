use Rattle.std.proofs.Common.{◌≡◌, ◌<◌, ◌+◌, ◌*◌, ◌%◌, ℕ, sym, subst, arith, take, length}
use Rattle.tm_conv.specs.declared.rates.Rate.{Rate}
use Rattle.tm_conv.specs.declared.rates.Rate.TheVariants.{R12}
use Rattle.tm_conv.specs.Path.{path, period}
use Rattle.tm_base.specs.Bits.{bits_of}
use Rattle.tm_conv.specs.Encoding.{bit_numbers, levels}
use Rattle.tm_conv.proofs.octets.encode_octets.Goals as goal

-- at rate 1/2 there is one place
no_place : (rate : Rate) (position : ℕ) → rate ≡ R12 → position < period rate → position ≡ 0
no_place rate position e lt = let small : position < 1 = subst (λ (r : Rate). position < period r) e lt in omega arith

pub returns-in-R12-clause-sent : goal.returns-in-R12-clause-sent
returns-in-R12-clause-sent c =
    let e = c.in-R12.is in
    let none = no_place c.args.rate c.args.position e c.requires.position in
    let P : Rate → ℕ → Type 0 = λ r p. take c.encode_from.result.0 c.encode_from.new.out
    ≡ levels c.args.low (path r c.args.invert p c.args.register (bit_numbers (bits_of c.args.octets.now))) in
    subst (λ (p : ℕ). P c.args.rate p) (sym none) (subst (λ (r : Rate). P r 0) (sym e) c.encode_from.ensures.sent)

pub returns-in-R12-clause-position : goal.returns-in-R12-clause-position
returns-in-R12-clause-position c =
    let e = c.in-R12.is in
    let none = no_place c.args.rate c.args.position e c.requires.position in
    let P : Rate → ℕ → Type 0 = λ r p. (c.encode_from.result.2 ≡ (p + 8 * length c.args.octets.now) % period r)
    × (c.encode_from.result.2 < period r) in
    subst (λ (p : ℕ). P c.args.rate p) (sym none) (subst (λ (r : Rate). P r 0) (sym e) c.encode_from.ensures.position)
