-- In either basis, octets and elements are converted into one another and back.
use Rattle.std.proofs.Common.{◌≡◌, ◌<◌, ℕ, refl}
use Rattle.tm_gf256.specs.Octet.{sent_octet, element_of}
use Rattle.tm_gf256.specs.declared.basis.Basis.{Basis}
use Rattle.tm_gf256.specs.declared.basis.Basis.TheVariants.{Dual, Poly}
use Rattle.tm_gf256.proofs.DualEntries.{dual_octet-lt, dual_element-lt, dual_element-dual_octet, dual_octet-dual_element}

pub sent_octet-lt : (b : Basis) (u : ℕ) → u < 256 → sent_octet b u < 256
sent_octet-lt Dual u h = dual_octet-lt u h
sent_octet-lt Poly u h = h

pub element_of-lt : (b : Basis) (z : ℕ) → z < 256 → element_of b z < 256
element_of-lt Dual z h = dual_element-lt z h
element_of-lt Poly z h = h

pub element_of-sent_octet : (b : Basis) (u : ℕ) → u < 256 → element_of b (sent_octet b u) ≡ u
element_of-sent_octet Dual u h = dual_element-dual_octet u h
element_of-sent_octet Poly u h = refl

pub sent_octet-element_of : (b : Basis) (z : ℕ) → z < 256 → sent_octet b (element_of b z) ≡ z
sent_octet-element_of Dual z h = dual_octet-dual_element z h
sent_octet-element_of Poly z h = refl
