use Rattle.std.proofs.Common.{◌+◌, ◌*◌, ◌-◌, ◌∙◌, refl, arith, length-set}
use Rattle.tm_cert_file.specs.Window.{parts_in}
use Rattle.tm_cert_file.proofs.BigEndian.{column_more}
use Rattle.tm_cert_file.proofs.numbers.read_column.Goals as goal

pub loop-s-init : goal.loop-s-init
unfolding parts_in
loop-s-init c = record { long = refl; prefix = refl }

pub loop-s-preserved : goal.loop-s-preserved
loop-s-preserved c = record {
  long = length-set c.loop-s.column c.loop-s.s c.read_u32.result ∙ c.loop-s.invariant.long;
  prefix =
      column_more c.loop-s.s (4 * c.loop-s.s + 4 - 4 * c.loop-s.s) c.read_u32.result c.loop-s.column c.args.octets.now
      c.loop-s.invariant.long (omega arith) (omega arith)
      c.read_u32.ensures c.loop-s.invariant.prefix;
}
