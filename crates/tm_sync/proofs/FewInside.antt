-- How many places there are where they are looked for inside codeblocks too.
use Rattle.std.proofs.Common.{ℕ, zero, suc, ◌+◌, ◌-◌, ◌*◌, ◌<◌, ◌≤◌, Bool, List, [], ◌∷◌, ◌++◌, length, drop, subst, arith, Some}
use Rattle.tm_sync.specs.declared.found.Found.{Found}
use Rattle.tm_sync.specs.declared.found.Columns.{Columns}
use Rattle.tm_sync.specs.Places.{Rules, settled_by}
use Rattle.tm_sync.specs.Rescan.{Soundness, reach, places_with}
use Rattle.tm_sync.specs.PlacesInside.{AreApart}
use Rattle.tm_sync.proofs.Longer.{AreAfter, EndBefore}
use Rattle.tm_sync.proofs.Prefixes.{places_with-end, places_with-goes_on}
use Rattle.tm_sync.proofs.FoundInside.{apart-all}

apart-tail : (bits : ℕ) (f : Found) (fs : List Found) → AreApart bits (f ∷ fs) → AreApart bits fs
apart-tail bits f [] apart = tt
apart-tail bits f (g ∷ []) apart = tt
apart-tail bits f (g ∷ h ∷ fs) apart = apart.1

-- the first one stands there or later
abbrev pub StartFrom : ℕ → List Found → Type 0
StartFrom start [] = Unit {0}
StartFrom start (f ∷ fs) = start ≤ f.place

pub few-apart : (rules : Rules) (bits end : ℕ) (fs : List Found) (start count : ℕ) → AreApart bits fs → StartFrom start fs
    → EndBefore rules end fs → end < start + 32 + rules.block_bits + count * (bits + 1) → length fs ≤ 2 * count
few-apart rules bits end [] start count apart from ends short = omega arith
few-apart rules bits end (f ∷ fs) start zero apart from ends short = let first = ends.0 in absurd (omega arith)
few-apart rules bits end (f ∷ []) start (suc count) apart from ends short = omega arith
few-apart rules bits end (f ∷ g ∷ []) start (suc count) apart from ends short = omega arith
few-apart rules bits end (f ∷ g ∷ h ∷ fs) start (suc count) (far, apart) from ends short =
    let others = few-apart rules bits end (h ∷ fs) (f.place + bits + 1) count (apart-tail bits g (h ∷ fs) apart)
    (omega arith) ends.1.1 (omega arith) in
    omega arith

pub few-all : (rules : Rules) (columns : Columns) (sound : Soundness) (bits : List Bool) (count : ℕ)
    → length bits < 32 + rules.block_bits + count * (32 + rules.block_bits - reach columns + 1)
    → length (places_with rules (Some columns) sound bits) ≤ 2 * count
few-all rules columns sound bits count short =
    few-apart rules (32 + rules.block_bits - reach columns) (length bits) (places_with rules (Some columns) sound bits)
    0 count (apart-all rules columns sound bits) (any (places_with rules (Some columns) sound bits))
    (places_with-end rules (Some columns) sound bits) (omega arith)
  where
    any : (fs : List Found) → StartFrom 0 fs
    any [] = tt
    any (f ∷ fs) = omega arith

-- ---- in a longer list

pub apart-rest : (bits : ℕ) (first rest : List Found) → AreApart bits (first ++ rest) → AreApart bits rest
apart-rest bits [] rest apart = apart
apart-rest bits (f ∷ first) rest apart = apart-rest bits first rest (apart-tail bits f (first ++ rest) apart)

pub ends-rest : (rules : Rules) (end : ℕ) (first rest : List Found) → EndBefore rules end (first ++ rest)
    → EndBefore rules end rest
ends-rest rules end [] rest ends = ends
ends-rest rules end (f ∷ first) rest ends = ends-rest rules end first rest ends.1

pub few-more : (rules : Rules) (columns : Columns) (sound : Soundness) (bits more : List Bool) (count : ℕ)
    → reach columns ≤ rules.block_bits
    → length (bits ++ more) + settled_by rules.verify rules.block_bits
    < length bits + 1 + 32 + rules.block_bits + count * (32 + rules.block_bits - reach columns + 1)
    → length (drop (length (places_with rules (Some columns) sound bits))
    (places_with rules (Some columns) sound (bits ++ more))) ≤ 2 * count
few-more rules columns sound bits more count fits short =
    let goes_on = places_with-goes_on rules (Some columns) sound bits more fits in
    few-apart rules (32 + rules.block_bits - reach columns) (length (bits ++ more)) Rest
    (length bits + 1 - settled_by rules.verify rules.block_bits) count
    (apart-rest (32 + rules.block_bits - reach columns) First Rest
    (subst (λ fs. AreApart (32 + rules.block_bits - reach columns) fs) goes_on.0
    (apart-all rules columns sound (bits ++ more)))) (after Rest goes_on.1)
    (ends-rest rules (length (bits ++ more)) First Rest
    (subst (λ fs. EndBefore rules (length (bits ++ more)) fs) goes_on.0
    (places_with-end rules (Some columns) sound (bits ++ more)))) (omega arith)
  where
    First : List Found
    First = places_with rules (Some columns) sound bits

    Rest : List Found
    Rest = drop (length First) (places_with rules (Some columns) sound (bits ++ more))

    after : (fs : List Found) → AreAfter rules (length bits) fs
        → StartFrom (length bits + 1 - settled_by rules.verify rules.block_bits) fs
    after [] past = tt
    after (f ∷ fs) past = let first = past.0 in omega arith
