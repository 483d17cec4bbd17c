-- The coefficients of the polynomial 1.
use Rattle.std.proofs.Common.{◌≡◌, ◌≤◌, ℕ, zero, suc, List, ◌∷◌, arith}
use Rattle.std.specs.Prelude.{replicate}
use Rattle.tm_gf256.specs.declared.Gf.{Gf}
use Rattle.tm_gf256.specs.Poly.{entry}
use Rattle.tm_rs_code.proofs.Numbers.{entry-zeros}

abbrev pub start : List Gf
start = record { 0 = 1 } ∷ replicate 32 (record { 0 = 0 })

pub start_beyond : (i : ℕ) → 1 ≤ i → entry start i ≡ 0
start_beyond zero h = absurd (omega arith)
start_beyond (suc i) h = entry-zeros 32 i
