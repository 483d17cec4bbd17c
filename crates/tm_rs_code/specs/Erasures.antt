-- Erasures: places whose symbols are known to be lost. The first flag is that of the first symbol.
use Rattle.std.specs.Prelude.{◌≡◌, ◌<◌, ◌≤◌, ◌+◌, ◌*◌, ℕ, Bool, List, [], ◌∷◌, length, ◌==◌, ◌||◌, if◌then◌else◌}
use Rattle.tm_gf256.specs.Poly.{value_at}
use Rattle.tm_rs_code.specs.Code.{AreElements, place_of, root, distance, weight}
use Rattle.tm_rs_code.specs.Nearest.{IsCodewordOf}

-- the number of erased places
abbrev pub count_erased : List Bool → ℕ
count_erased [] = 0
count_erased (f ∷ fs) = (if f then 1 else 0) + count_erased fs

-- the word with 1 at each erased place, and 0 elsewhere
abbrev pub marks : List Bool → List ℕ
marks [] = []
marks (f ∷ fs) = (if f then 1 else 0) ∷ marks fs

-- the word with 0 at each erased place
abbrev pub outside : List Bool → List ℕ → List ℕ
outside [] xs = xs
outside (f ∷ fs) [] = []
outside (f ∷ fs) (x ∷ xs) = (if f then 0 else x) ∷ outside fs xs

-- the word with 0 at each place that is not erased
abbrev pub inside : List Bool → List ℕ → List ℕ
inside [] xs = []
inside (f ∷ fs) [] = []
inside (f ∷ fs) (x ∷ xs) = (if f then x else 0) ∷ inside fs xs

-- w is an error pattern of a word with erased places: any symbols there, elsewhere so few that are
-- not 0 that twice their number and the number of erased places is at most 2e, and its syndromes
-- are s
pub record IsErasedPattern (e : ℕ) (erased : List Bool) (s : ℕ → ℕ) (w : List ℕ) : Type 0 where
  pub size : length w ≡ length erased
  pub elements : AreElements w
  pub few : 2 * weight (outside erased w) + count_erased erased ≤ 2 * e
  pub meets : (k : ℕ) → k < 2 * e → value_at w (root e k) ≡ s k

-- what is nearest to a word with erased places: a codeword and the numbers of other places and of
-- erased places at which it differs, or none within the bounds
pub data NearestErased : Type 0 where
  Fixed : (c : List ℕ) → (a : ℕ) → (b : ℕ) → NearestErased
  Beyond : NearestErased

-- the number of places, not erased, at which two words differ, is within the bound, and twice that
-- number and the number of erased places is at most 2e
pub record IsWithin (e bound : ℕ) (erased : List Bool) (w c : List ℕ) : Type 0 where
  pub bounded : distance (outside erased c) (outside erased w) ≤ bound
  pub few : 2 * distance (outside erased c) (outside erased w) + count_erased erased ≤ 2 * e

-- c is a codeword within the bounds that differs from w in a places that are not erased and in b
-- that are; or there is no codeword within the bounds
abbrev pub IsNearestErased : ℕ → ℕ → List Bool → List ℕ → NearestErased → Type 0
IsNearestErased e bound erased w (Fixed c a b) =
    IsCodewordOf e (length w) c × IsWithin e bound erased w c
    × (distance (outside erased c) (outside erased w) ≡ a)
    × (distance (inside erased c) (inside erased w) ≡ b)
IsNearestErased e bound erased w Beyond = (c : List ℕ) → IsCodewordOf e (length w) c
    → IsWithin e bound erased w c → ⊥

-- the word with 1 at each place that is erased or at which the polynomial g is 0, and 0 elsewhere
abbrev pub places_named : List ℕ → List Bool → List ℕ
places_named g [] = []
places_named g (f ∷ fs) = (if f || (value_at g (place_of (length fs)) == 0) then 1 else 0)
    ∷ places_named g fs
