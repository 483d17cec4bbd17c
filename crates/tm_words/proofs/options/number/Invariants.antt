use Rattle.std.proofs.Common.{◌≡◌, ◌≤◌, drop, min}
use Rattle.std.specs.List.{list_all}
use Rattle.std.specs.Char.{is_ascii_digit}
use Rattle.std.specs.Str.Parse.{digits_value, digits_value_after}
use Rattle.tm_words.specs.Options.{no_number}
use Rattle.tm_words.proofs.options.number.Given as goal

abbrev pub invariant-loop-digit : goal.invariant-loop-digit
invariant-loop-digit l = record {
  digits : list_all is_ascii_digit (drop l.digit-index l.digit-items) ≡ list_all is_ascii_digit l.digit-items;
  value : min (digits_value_after 10 l.value (drop l.digit-index l.digit-items)) no_number
      ≡ min (digits_value 10 l.digit-items) no_number;
  small : l.value ≤ no_number;
}
