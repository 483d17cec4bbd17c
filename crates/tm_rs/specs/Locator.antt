-- The locator of an error pattern: the polynomial whose factors name its places.
use Rattle.std.specs.Prelude.{◌≡◌, ◌≢◌, ◌<◌, ◌+◌, ◌-◌, ℕ, Bool, true, false, List, length, take, slice_index_or}
use Rattle.tm_gf256.specs.declared.Gf.{Gf}
use Rattle.tm_gf256.specs.Poly.{entry, numbers, value_at}
use Rattle.tm_rs_code.specs.Code.{place_of, weight}
use Rattle.tm_rs_code.specs.Erasures.{IsErasedPattern, outside}
use Rattle.tm_rs_code.specs.Pattern.{IsPattern, locator_of}

-- the coefficients of the longest locator
abbrev pub locator_room : ℕ
locator_room = 17

-- the coefficients are those of the locator of w, the power 0 first, and after them zeros
pub record IsLocatorOf (coefs : List Gf) (degree : ℕ) (w : List ℕ) : Type 0 where
  pub room : length coefs ≡ locator_room
  pub elements : (i : ℕ) → entry coefs i < 256
  pub places : degree ≡ weight w
  pub product : numbers (take (degree + 1) coefs) ≡ locator_of w
  pub beyond : (i : ℕ) → degree < i → entry coefs i ≡ 0

-- there is an error pattern, and this is its locator
abbrev pub Locates : ℕ → ℕ → (ℕ → ℕ) → List Gf → ℕ → Type 0
Locates e n s coefs degree = (w : List ℕ) × IsPattern e n s w × IsLocatorOf coefs degree w

-- no word of n symbols is an error pattern with these syndromes
abbrev pub NoPattern : ℕ → ℕ → (ℕ → ℕ) → Type 0
NoPattern e n s = (w : List ℕ) → IsPattern e n s w → ⊥

-- there is an error pattern with erased places, and this is the locator of its other places
abbrev pub LocatesErased : ℕ → List Bool → (ℕ → ℕ) → List Gf → ℕ → Type 0
LocatesErased e erased s coefs degree =
    (w : List ℕ) × IsErasedPattern e erased s w × IsLocatorOf coefs degree (outside erased w)

-- none with erased places has these syndromes
abbrev pub NoErasedPattern : ℕ → List Bool → (ℕ → ℕ) → Type 0
NoErasedPattern e erased s = (w : List ℕ) → IsErasedPattern e erased s w → ⊥

-- the polynomial g is not 0 at an erased place
abbrev pub AvoidsErased : List ℕ → List Bool → Type 0
AvoidsErased g erased =
    (i : ℕ) → i < length erased → slice_index_or erased i false ≡ true
    → value_at g (place_of (length erased - 1 - i)) ≢ 0
