-- Entries of lists that were written to, and values at places and roots.
use Rattle.std.proofs.Common.{◌≡◌, ◌≢◌, ◌<◌, ◌+◌, ◌-◌, ◌*◌, ◌∙◌, ℕ, List, length, ap, sym, set, get_or-set_other, get_or-set_same}
use Rattle.tm_gf256.specs.declared.Gf.{Gf}
use Rattle.tm_gf256.specs.Field.{power}
use Rattle.tm_gf256.specs.Poly.{entry, value_at}
use Rattle.tm_rs_code.specs.Code.{place_of, root}

pub entry-set_same : (xs : List Gf) (i : ℕ) (v : Gf) → i < length xs → entry (set xs i v) i ≡ v.0
entry-set_same xs i v h = ap (λ (g : Gf). g.0) (get_or-set_same xs i v (record { 0 = 0 }) h)

pub entry-set_other : (xs : List Gf) (i j : ℕ) (v : Gf) → j ≢ i → entry (set xs i v) j ≡ entry xs j
entry-set_other xs i j v h = ap (λ (g : Gf). g.0) (get_or-set_other xs i j v (record { 0 = 0 }) h)

-- the value at a place
pub at_place : (poly : List ℕ) (p x v : ℕ) → x ≡ power 2 (11 * p) → v ≡ value_at poly x → value_at poly (place_of p) ≡ v
unfolding place_of
at_place poly p x v e f = ap (value_at poly) (sym e) ∙ sym f

-- a root is the element of a place
pub at_root : (poly : List ℕ) (e k p v : ℕ) → p ≡ 128 - e + k → v ≡ value_at poly (place_of p)
    → v ≡ value_at poly (root e k)
unfolding place_of
at_root poly e k p v is h = h ∙ ap (λ (i : ℕ). value_at poly (power 2 (11 * i))) is
