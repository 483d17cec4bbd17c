use Rattle.std.proofs.Common.{◌≡◌, ◌*◌, ◌≤◌, ◌++◌, Bool, List, length, take}
use Rattle.tm_base.specs.Bits.{bits_of}
use Rattle.tm_conv.specs.Encoding.{EncoderStandsFor, sent_for, levels}
use Rattle.tm_conv.proofs.plain.plain_encode.Given as goal

abbrev pub invariant-loop-k : goal.invariant-loop-k
invariant-loop-k l = record {
  rate : l.encoder.rate ≡ l.fn.encoder.rate;
  invert : l.encoder.invert ≡ l.fn.encoder.invert;
  count : l.count ≤ 2 * l.k;
  length : length l.out ≡ length l.fn.out;
  stands : (given : List Bool) → EncoderStandsFor l.fn.encoder given
      → EncoderStandsFor l.encoder (given ++ take l.k (bits_of l.octets));
  sent : (given : List Bool) → EncoderStandsFor l.fn.encoder given
      → levels l.low (sent_for l.fn.encoder.rate l.fn.encoder.invert (given ++ take l.k (bits_of l.octets)))
      ≡ levels l.low (sent_for l.fn.encoder.rate l.fn.encoder.invert given) ++ take l.count l.out;
}
