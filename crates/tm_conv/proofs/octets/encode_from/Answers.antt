use Rattle.std.proofs.Common.{◌≡◌, ◌<◌, ◌≤◌, ◌+◌, ◌-◌, ◌*◌, ◌%◌, ◌∙◌, List, length, take, ℕ, arith, sym, ap, subst}
use Rattle.std.proofs.lemmas.List.{take_all}
use Rattle.tm_conv.specs.Path.{path, period, register_after}
use Rattle.tm_conv.specs.Encoding.{levels}
use Rattle.tm_conv.proofs.OctetPaths.{octet_bits, register-more, place-more, position-within, symbols-more}
use Rattle.tm_conv.proofs.octets.encode_from.Goals as goal

pub loop-octet-preserved : goal.loop-octet-preserved
loop-octet-preserved c =
    let now = c.loop-octet.invariant in
    let octets = c.args.octets.now in
    let i = c.loop-octet.octet-index in
    let place = place-more c.args.rate c.args.first_position c.loop-octet.position i now.position in
    let room : c.loop-octet.count + 16 - c.loop-octet.count ≡ 16 = omega arith in
    record {
      register = c.register_of-register.ensures.after c.loop-octet.register now.low
          ∙ register-more c.args.first_register c.loop-octet.register octets i c.loop-octet-test.true now.register;
      low = c.register_of-register.ensures.small;
      position = c.position_after-position.ensures ∙ place;
      within = subst (λ t. t < period c.args.rate) (sym c.position_after-position.ensures)
          (position-within c.args.rate (c.loop-octet.position + 8));
      count = omega (arith, c.from-count.ensures, c.octet_symbols-kept.ensures.at_most, now.count);
      done =
          symbols-more c.args.rate c.args.invert c.args.low c.args.first_position
          c.args.first_register c.loop-octet.position
          c.loop-octet.register
          octets c.loop-octet.out c.octet_symbols-kept.result.0 i
          c.loop-octet.count (c.loop-octet.count + 16 - c.loop-octet.count) c.from-count.result c.loop-octet-test.true
          now.position now.register
          (ap (λ n. take n c.octet_symbols-kept.result.0) c.from-count.ensures ∙ c.octet_symbols-kept.ensures.kept)
          room c.octet_symbols-kept.ensures.long
          (omega (arith, c.from-count.ensures, c.octet_symbols-kept.ensures.at_most))
          (omega (arith, now.count, c.loop-octet-test.true, c.requires.room, c.loop-octet.auto.out)) now.done;
    }

-- all octets were taken
all_taken : (i : ℕ) (octets : List ℕ) → length octets ≤ i → take i octets ≡ octets
all_taken i octets end = take_all i octets end

pub returns-clause-sent : goal.returns-clause-sent
returns-clause-sent c =
    let whole = all_taken c.loop-octet.octet-index c.args.octets.now c.loop-octet-test.false in
    c.loop-octet.invariant.done
    ∙ ap (λ l. levels c.args.low
    (path c.args.rate c.args.invert c.args.first_position c.args.first_register (octet_bits l))) whole

pub returns-clause-register : goal.returns-clause-register
returns-clause-register c =
    let whole = all_taken c.loop-octet.octet-index c.args.octets.now c.loop-octet-test.false in (
      c.loop-octet.invariant.register
          ∙ ap (λ l. register_after c.args.first_register (octet_bits l)) whole,
      c.loop-octet.invariant.low,
    )

pub returns-clause-position : goal.returns-clause-position
returns-clause-position c =
    let count : c.loop-octet.octet-index ≡ length c.args.octets.now =
    omega (arith, c.loop-octet.auto.octet-index-end, c.loop-octet-test.false) in (
      c.loop-octet.invariant.position
          ∙ ap (λ n. (c.args.first_position + 8 * n) % period c.args.rate) count,
      c.loop-octet.invariant.within,
    )
