-- Streams of codeblocks that nothing disturbed.
use Rattle.std.proofs.Common.{◌≡◌, ℕ, zero, suc, ◌+◌, ◌*◌, ◌<◌, ◌≤◌, Bool, true, false, cond, nat_le, List, [], ◌∷◌, ◌++◌, length, drop, refl, sym, ap, ◌∙◌, subst, arith, Option, Some, None, ◌&&◌, ◌⊎◌, inl, inr, append_assoc, length-append, mul-le-mul_right}
use Rattle.std.specs.List.{AllByRecursion}
use Rattle.std.proofs.lemmas.List.{drop_at}
use Rattle.std.proofs.lemmas.Bool.Decides.{nat_tests}
use Rattle.tm_base.specs.Bits.{low_bits}
use Rattle.tm_sync.specs.declared.found.Found.{Found}
use Rattle.tm_sync.specs.declared.found.Before.{Before}
use Rattle.tm_sync.specs.Bits.{marker_bits}
use Rattle.tm_sync.specs.Places.{Rules, wrong_bits, match_of, matches_in, are_verified, verified, place_polarity, settled_by, before_next, places}
use Rattle.tm_sync.specs.Marked.{Entry, joined, HasNoMarker, MayBridge, place_by_marker, place_of, places_of, AreEntries, IsMarked, clean_entries, clean_places}
use Rattle.tm_sync.proofs.Numbers.{length-marker_bits}
use Rattle.tm_sync.proofs.Steps.{match_of-append, are_verified-zero, are_verified-more, places_from-unsettled}
use Rattle.tm_sync.proofs.MarkedStreams.{places-marked}

-- each block has the size of a codeblock
abbrev pub AreSized : Rules → List (List Bool) → Type 0
AreSized rules blocks = AllByRecursion (λ block. length block ≡ rules.block_bits) blocks

pub no_wrong_bits : wrong_bits false marker_bits ≡ 0
unfolding wrong_bits low_bits
no_wrong_bits = refl

pub marker-matches : (rules : Rules) → match_of rules marker_bits ≡ Some false
unfolding match_of
marker-matches rules =
    let test : nat_le (wrong_bits false marker_bits) rules.tolerance ≡ true = grind (arith, nat_tests, no_wrong_bits) in
    ap (λ c. cond c (Some false) (cond (rules.either && nat_le (wrong_bits true marker_bits) rules.tolerance)
    (Some true) None)) test

-- the bits of the codeblocks with their markers
abbrev pub sent : List (List Bool) → List Bool
sent blocks = joined (clean_entries blocks) []

pub length-sent : (rules : Rules) (blocks : List (List Bool)) → AreSized rules blocks
    → length (sent blocks) ≡ length blocks * (32 + rules.block_bits)
length-sent rules [] sized = omega arith
length-sent rules (block ∷ blocks) sized =
    let more = length-sent rules blocks sized.1 in
    let marker = length-marker_bits in
    let one : length block ≡ rules.block_bits = sized.0 in
    let all : length (sent (block ∷ blocks)) ≡ length marker_bits + (length block + length (sent blocks)) =
    length-append marker_bits (block ++ sent blocks) ∙ ap (λ n. length marker_bits + n)
    (length-append block (sent blocks)) in
    omega arith

-- after each codeblock stand the others
pub after-sent : (rules : Rules) (block : List Bool) (blocks : List (List Bool)) → length block ≡ rules.block_bits
    → drop (32 + rules.block_bits) (sent (block ∷ blocks)) ≡ sent blocks
after-sent rules block blocks sized =
    let marker = length-marker_bits in
    ap (drop (32 + rules.block_bits)) (sym (append_assoc marker_bits block (sent blocks)))
    ∙ drop_at (marker_bits ++ block) (sent blocks) (32 + rules.block_bits)
    (length-append marker_bits block ∙ omega arith)

-- each marker verifies those before it
pub match-sent : (rules : Rules) (block : List Bool) (blocks : List (List Bool))
    → match_of rules (sent (block ∷ blocks)) ≡ Some false
match-sent rules block blocks =
    let marker = length-marker_bits in match_of-append rules marker_bits (block ++ sent blocks) (omega arith)
    ∙ marker-matches rules

verified-sent : (rules : Rules) (count : ℕ) (block : List Bool) (blocks : List (List Bool))
    → AreSized rules (block ∷ blocks) → count ≤ length blocks
    → are_verified rules false count (sent (block ∷ blocks)) ≡ true
verified-sent rules zero block blocks sized fewer = are_verified-zero rules false (sent (block ∷ blocks))
verified-sent rules (suc count) block [] sized fewer = absurd (omega arith)
verified-sent rules (suc count) block (block' ∷ blocks) sized fewer =
    let size = length-sent rules (block ∷ block' ∷ blocks) sized in
    let next = after-sent rules block (block' ∷ blocks) sized.0 in
    are_verified-more rules false count (sent (block ∷ block' ∷ blocks)) (omega arith)
    ∙ (λ i. matches_in (match_of rules (next i)) false && are_verified rules false count (next i))
    ∙ (λ i. matches_in (match-sent rules block' blocks i) false && verified-sent rules count block' blocks sized.1
    (omega arith) i)

nothing : (rules : Rules) (before : Option Before) (bits : List Bool) → HasNoMarker rules before [] bits
nothing rules before bits q below = absurd (omega arith)

-- either a codeblock stands before these, or none of them or enough are sent
abbrev AreEnough : Rules → Option Before → List (List Bool) → Type 0
AreEnough rules None blocks = (blocks ≡ []) ⊎ (rules.verify < length blocks)
AreEnough rules (Some before) blocks = Unit {0}

polarity-sent : (rules : Rules) (before : Option Before) (block : List Bool) (blocks : List (List Bool))
    → AreSized rules (block ∷ blocks) → AreEnough rules before (block ∷ blocks)
    → place_polarity rules before (sent (block ∷ blocks)) ≡ match_of rules marker_bits
polarity-sent rules (Some before) block blocks sized enough = match-sent rules block blocks ∙ sym (marker-matches rules)
polarity-sent rules None block blocks sized (inl none) = let no : (block ∷ blocks) ≡ [] = none in absurd (cc)
polarity-sent rules None block blocks sized (inr many) =
    ap (verified rules (sent (block ∷ blocks))) (match-sent rules block blocks)
    ∙ ap (λ c. cond c (Some false) None) (verified-sent rules rules.verify block blocks sized (omega arith))
    ∙ sym (marker-matches rules)

are_entries : (rules : Rules) (at : ℕ) (before : Option Before) (blocks : List (List Bool)) → AreSized rules blocks
    → AreEnough rules before blocks → AreEntries rules at before (clean_entries blocks) []
are_entries rules at before [] sized enough = (nothing rules before [], tt)
are_entries rules at before (block ∷ blocks) sized enough =
    let e : Entry = record { gap = []; marker = marker_bits; block = block } in (
      record {
        marker = length-marker_bits;
        block = sized.0;
        gap = nothing rules before (joined (e ∷ clean_entries blocks) []);
        waits = tt;
        bridged = subst (λ (w : Option Bool). MayBridge rules before e w) (sym (marker-matches rules)) tt;
        verified = polarity-sent rules before block blocks sized enough;
      },
      are_entries rules ((place_of rules at before e).place + 32 + rules.block_bits)
          (Some (before_next before (place_of rules at before e))) blocks sized.1 tt,
    )

pub clean-marked : (rules : Rules) (blocks : List (List Bool)) → AreSized rules blocks → (blocks ≡ [])
    ⊎ (rules.verify < length blocks)
    → IsMarked rules (joined (clean_entries blocks) []) (clean_entries blocks) []
clean-marked rules blocks sized enough =
    record { parts = refl; are_entries = are_entries rules 0 None blocks sized enough }

pub places_of-clean : (rules : Rules) (at : ℕ) (before : Option Before) (blocks : List (List Bool))
    → places_of rules at before (clean_entries blocks) ≡ clean_places rules.block_bits at blocks
places_of-clean rules at before [] = refl
places_of-clean rules at before (block ∷ blocks) =
    let e : Entry = record { gap = []; marker = marker_bits; block = block } in
    let f : Found = record { place = at; distance = 0; bridged = false; inverted = false } in
    let here : at + 0 ≡ at = omega arith in
    let is : place_of rules at before e ≡ f =
    ap (place_by_marker (at + 0) before e) (marker-matches rules)
    ∙ (λ i. record { place = here i; distance = no_wrong_bits i; bridged = false; inverted = false }) in
    ap (λ (g : Found). g ∷ places_of rules (g.place + 32 + rules.block_bits) (Some (before_next before g))
    (clean_entries blocks)) is
    ∙ ap (λ fs. f ∷ fs) (places_of-clean rules (at + 32 + rules.block_bits) (Some (before_next before f)) blocks)

pub places-clean : (rules : Rules) (blocks : List (List Bool)) → AreSized rules blocks → (blocks ≡ [])
    ⊎ (rules.verify < length blocks)
    → places rules (joined (clean_entries blocks) []) ≡ clean_places rules.block_bits 0 blocks
places-clean rules blocks sized enough =
    places-marked rules (joined (clean_entries blocks) []) (clean_entries blocks) []
    (clean-marked rules blocks sized enough) ∙ places_of-clean rules 0 None blocks

-- too few codeblocks to verify the first are not found
pub places-too_few : (rules : Rules) (blocks : List (List Bool)) → AreSized rules blocks
    → length blocks ≤ rules.verify → places rules (joined (clean_entries blocks) []) ≡ []
places-too_few rules blocks sized fewer = places_from-unsettled rules 0 (sent blocks) (go rules.verify fewer)
  where
    go : (count : ℕ) → length blocks ≤ count → length (sent blocks) < settled_by count rules.block_bits
    go zero fewer =
        let size = length-sent rules blocks sized in
        let most = mul-le-mul_right (32 + rules.block_bits) fewer in
        omega arith
    go (suc count) fewer =
        let size = length-sent rules blocks sized in
        let most = mul-le-mul_right (32 + rules.block_bits) fewer in
        omega arith
