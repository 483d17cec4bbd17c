-- The octet that is sent for an element, in either basis, and the element for which an octet is
-- sent.
use Rattle.std.specs.Prelude.{ℕ, zero, suc}
use Rattle.tm_gf256.specs.Dual.{dual_octet, dual_element}
use Rattle.tm_gf256.specs.declared.basis.Basis.{Basis}
use Rattle.tm_gf256.specs.declared.basis.Basis.TheVariants.{Dual, Poly}

-- the basis that stands under this number in a configuration
abbrev pub basis_of : ℕ → Basis
basis_of zero = Dual
basis_of (suc n) = Poly

-- the octet that is sent for element u; in the basis of the powers of alpha it is the number itself
abbrev pub sent_octet : Basis → ℕ → ℕ
sent_octet Dual u = dual_octet u
sent_octet Poly u = u

-- the element for which octet z is sent
abbrev pub element_of : Basis → ℕ → ℕ
element_of Dual z = dual_element z
element_of Poly z = z
