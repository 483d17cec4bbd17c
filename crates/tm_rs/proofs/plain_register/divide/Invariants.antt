use Rattle.std.proofs.Common.{◌++◌, ℕ, take}
use Rattle.tm_gf256.specs.Poly.{numbers}
use Rattle.tm_rs_code.specs.Code.{IsSystematic}
use Rattle.tm_rs.specs.Generator.{IsGenerator}
use Rattle.tm_rs.proofs.plain_register.divide.Given as goal

abbrev pub invariant-loop-symbol : goal.invariant-loop-symbol
invariant-loop-symbol l =
    (e : ℕ) → IsGenerator e l.generator
    → IsSystematic e (numbers (take l.symbol-index l.info))
    (numbers (take l.symbol-index l.info) ++ numbers l.register)
