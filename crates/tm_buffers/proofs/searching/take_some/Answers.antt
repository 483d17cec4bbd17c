use Rattle.std.proofs.Common.{arith, ◌≡◌, ◌<◌, ◌+◌, ◌-◌, ◌/◌, ◌%◌, ℕ, ◌*◌, [], ◌∷◌, ◌++◌, take, drop, Option, IsSome, unwrap_or, ap, sym, ◌∙◌, subst, length-take}
use Rattle.tm_base.specs.Bits.{bits_of}
use Rattle.tm_sync.specs.Searching.{SearchStandsFor}
use Rattle.tm_sync.proofs.Sliding.{masked-bit}
use Rattle.tm_buffers.proofs.Spans.{sooner-inside, span-bit, span-octets, takes-bit}
use Rattle.tm_buffers.proofs.searching.take_some.Goals as goal

pub returns-then-whole-gt0-clause-takes : goal.returns-then-whole-gt0-clause-takes
returns-then-whole-gt0-clause-takes c =
    let p = c.push_octets in
    let search = c.args.search.now in
    let room = c.args.room.now in
    let first : ℕ = c.args.from / 8 in
    let whole = c.min-whole.result in
    let some : 0 < c.whole_octets.result = omega (arith, c.if-whole-gt0.true, c.min-whole.ensures) in
    let fits = c.whole_octets.ensures some in
    let aligned : c.args.from % 8 ≡ 0 = fits.2 in
    let size : first + whole - first ≡ whole = omega arith in
    let octets = drop first c.args.octets.now in
    let inside = ap (λ o. unwrap_or o 0) c.inside.ensures.count in
    record {
      rules = p.ensures.rules;
      order = omega arith;
      goes_on = λ given found few stands. (
        subst (λ l. SearchStandsFor p.new.self room (given ++ l) found)
            (sym (span-octets c.args.from first whole c.args.octets.now (omega (arith, aligned))))
            (subst (λ n. SearchStandsFor p.new.self room (given ++ bits_of (take n octets)) found) size
            (p.ensures.stands room given found
            (omega (arith, few, length-take (first + whole - first) octets)) stands)),
        sooner-inside search room given (bits_of c.args.octets.now) found c.args.from (c.args.from + 8 * whole)
            (subst (λ (o : Option ℕ). IsSome o) c.inside.ensures.count fits.0)
            (omega (arith, fits.1, inside, c.requires.block, c.min-whole.ensures)) stands,
      );
    }

pub returns-clause-takes : goal.returns-clause-takes
returns-clause-takes c =
    takes-bit c.args.search.now c.push_bit.new.self c.args.room.now c.push_bit.new.room (bits_of c.args.octets.now)
    c.args.from _ c.requires.free c.push_bit.ensures.rules
    (span-bit c.args.from c.args.octets.now c.requires.from
    ∙ ap (λ b. b ∷ []) (sym (masked-bit (7 - c.args.from % 8) _))) c.push_bit.ensures.stands
