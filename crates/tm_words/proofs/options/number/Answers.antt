use Rattle.std.proofs.Common.{◌≡◌, ◌∙◌, sym, arith, drop, []}
use Rattle.std.proofs.lemmas.List.{drop_all}
use Rattle.std.proofs.lemmas.Bool.Decides.{nat_tests}
use Rattle.tm_words.specs.Options.{no_number}
use Rattle.tm_words.proofs.Numerals.{one_more, one_more_digit, number_of-read}
use Rattle.tm_words.proofs.options.number.Goals as goal

pub loop-digit-preserved : goal.loop-digit-preserved
loop-digit-preserved c =
    let is_digit = sym (c.is_ascii_digit.ensures.value) ∙ c.if-not-is_ascii_digit.false in
    record {
      digits =
          one_more_digit _ c.loop-digit.digit-index c.loop-digit-test.true is_digit ∙ c.loop-digit.invariant.digits;
      value =
          one_more c.loop-digit.value c.saturating_mul.result c.saturating_add-value.result no_number _
          c.loop-digit.digit-index c.loop-digit-test.true is_digit c.saturating_mul.ensures
          c.saturating_add-value.ensures ∙ c.loop-digit.invariant.value;
      small = omega arith;
    }

pub returns : goal.returns
returns c =
    let all_read : drop c.loop-digit.digit-index c.as_bytes-digit-items.result.now ≡ [] =
    drop_all _ _ c.loop-digit-test.false in
    let text : c.as_bytes-digit-items.result.now ≡ c.args.text.now = c.as_bytes-digit-items.ensures.value in
    number_of-read c.args.text.now c.loop-digit.value (grind (arith, nat_tests)) (omega arith)
    (rw (all_read, text) at c.loop-digit.invariant.digits) (rw (all_read, text) at c.loop-digit.invariant.value)
    (omega arith)
