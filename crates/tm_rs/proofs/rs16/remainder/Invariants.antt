use Rattle.std.proofs.Common.{◌≡◌, ◌++◌, length, take}
use Rattle.tm_gf256.specs.Poly.{numbers}
use Rattle.tm_rs_code.specs.Code.{IsSystematic}
use Rattle.tm_rs.proofs.rs16.remainder.Given as goal

abbrev pub invariant-loop-symbol : goal.invariant-loop-symbol
invariant-loop-symbol l = record {
  size : length l.register ≡ 32;
  systematic : IsSystematic 16 (numbers (take l.symbol-index l.info))
      (numbers (take l.symbol-index l.info) ++ l.register);
}
