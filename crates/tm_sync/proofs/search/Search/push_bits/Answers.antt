use Rattle.std.proofs.Common.{◌≡◌, ◌∙◌, ℕ, ◌+◌, ◌-◌, ◌≤◌, ◌∷◌, [], List, append_assoc, ◌++◌, ap, sym, arith, length, refl, subst, length-append}
use Rattle.std.proofs.lemmas.List.{append-nil}
use Rattle.tm_base.specs.Bits.{low_bits}
use Rattle.tm_base.proofs.Packing.{length-low_bits}
use Rattle.tm_sync.specs.Places.{Rules, verify_bits}
use Rattle.tm_sync.specs.Searching.{Searching, SearchStandsFor, inside_of}
use Rattle.tm_sync.proofs.Given.{none_few, few_more, few_free, few_less, first-zero, room-same, verify-none}
use Rattle.tm_sync.proofs.Sliding.{bit_of, masked-bit, bits-bit, bits-all}
use Rattle.tm_sync.proofs.search.Search.push_bits.Goals as goal

pub returns-then-pass_octet-clause-stands : goal.returns-then-pass_octet-clause-stands
returns-then-pass_octet-clause-stands c = c.pass_octet.ensures.stands c.if-pass_octet.true

pub loop-left-init : goal.loop-left-init
loop-left-init c = record {
  rules = c.pass_octet.ensures.rules;
  empty = refl;
  most = omega arith;
  few = none_few _ _ c.pass_octet.ensures.free;
  given = (
    [],
    refl,
    λ room bits found few h.
        subst (λ l. SearchStandsFor c.pass_octet.new.self room l found) (sym (append-nil bits))
        (subst (λ (v : Searching). SearchStandsFor v room bits found)
        (sym (c.pass_octet.ensures.unchanged c.if-pass_octet.false)) h),
  );
}

pub push_bit-requires : goal.push_bit-requires
push_bit-requires c =
    few_free c.loop-left.self c.loop-left.left c.loop-left.invariant.few
    (subst (λ (r : Rules). 8 ≤ r.block_bits) (sym c.loop-left.invariant.rules) c.requires.fits)

pub loop-left-preserved : goal.loop-left-preserved
loop-left-preserved c =
    let was = c.loop-left.invariant.given in
    let octet = c.args.octet in
    let left = c.loop-left.left in
    let bit = bit_of (left - 1) octet in
    let parts = bits-bit was.0 left octet c.loop-left-test.true was.1 in
    let long : length was.0 + left ≡ 8 = sym (length-append was.0 (low_bits left octet)
    ∙ ap (λ n. length was.0 + n) (length-low_bits left octet)) ∙ ap length (sym was.1)
    ∙ length-low_bits 8 octet in
    let rules = c.push_bit.ensures.rules ∙ c.loop-left.invariant.rules in
    let empty : length c.push_bit.new.room ≡ 0 = c.push_bit.ensures.size ∙ c.loop-left.invariant.empty in
    record {
      rules = rules;
      empty = empty;
      most = omega arith;
      few =
          few_more _ _ left c.loop-left-test.true c.loop-left.invariant.most c.loop-left.invariant.few
          c.push_bit.ensures.more
          (first-zero (inside_of c.loop-left.self) (inside_of c.push_bit.new.self)
          (verify_bits c.push_bit.new.self.rules)
          (verify-none c.push_bit.new.self.rules (ap (λ (r : Rules). r.verify) rules ∙ c.requires.alone))
          c.push_bit.ensures.first);
      given = (
        was.0 ++ bit ∷ [],
        parts,
        λ room bits found few h.
            let stood = was.2 room bits found few h in
            let none : length room ≡ 0 = stood.sized ∙ verify-none c.loop-left.self.rules
            (ap (λ (r : Rules). r.verify) c.loop-left.invariant.rules ∙ c.requires.alone) in
            subst (λ (r : List ℕ). SearchStandsFor c.push_bit.new.self r (bits ++ (was.0 ++ bit ∷ [])) found)
            (room-same c.push_bit.new.room room empty none)
            (subst (λ l. SearchStandsFor c.push_bit.new.self c.push_bit.new.room l found)
            (ap (λ b. (bits ++ was.0) ++ b ∷ []) (masked-bit (left - 1) octet) ∙ append_assoc bits was.0 (bit ∷ []))
            (c.push_bit.ensures.stands (bits ++ was.0) found (omega (arith, length-append bits was.0))
            (subst (λ (r : List ℕ). SearchStandsFor c.loop-left.self r (bits ++ was.0) found)
            (room-same room c.loop-left.room none c.loop-left.invariant.empty) stood))),
      );
    }

pub returns-clause-first : goal.returns-clause-first
returns-clause-first c = few_less _ _ c.loop-left.invariant.few

pub returns-clause-stands : goal.returns-clause-stands
returns-clause-stands c = λ room bits found few h.
    let was = c.loop-left.invariant.given in
    subst (λ l. SearchStandsFor c.loop-left.self room (bits ++ l) found)
    (sym (bits-all was.0 c.loop-left.left c.args.octet (omega arith) was.1)) (was.2 room bits found few h)
