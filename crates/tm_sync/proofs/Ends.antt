-- The places after the end of a codeblock.
use Rattle.std.proofs.Common.{◌≡◌, ℕ, suc, ◌+◌, ◌-◌, ◌≤◌, Bool, false, List, [], ◌∷◌, ◌++◌, length, take, drop, refl, sym, ap, ◌∙◌, subst, arith, Option, Some, None, take-append-drop, append_assoc}
use Rattle.std.proofs.lemmas.List.{length-take-le, take_at, drop-drop, drop-append-le}
use Rattle.tm_sync.specs.declared.found.Found.{Found}
use Rattle.tm_sync.specs.declared.found.Before.{Before}
use Rattle.tm_sync.specs.Places.{Rules, place_polarity, before_next, place_at, places_from, places}
use Rattle.tm_sync.specs.Searching.{end_of, before_past}
use Rattle.tm_sync.proofs.Steps.{places_from-nil, places_from-skip, places_from-one, places_from-miss, place_at-room}
use Rattle.tm_sync.proofs.Longer.{Seen, none, some, seen, place_at-stands, EndBefore, places-append, places-end}
use Rattle.tm_sync.proofs.FirstPlaces.{not-bridged-here, after-matched}

-- the end of the last of these codeblocks, or of what stands before them
abbrev pub end_after : Rules → ℕ → List Found → ℕ
end_after rules end [] = end
end_after rules end (f ∷ found) = end_after rules (f.place + 32 + rules.block_bits) found

pub end_after-is : (rules : Rules) (found : List Found) → end_after rules 0 found ≡ end_of rules found
end_after-is rules [] = refl
end_after-is rules (f ∷ found) = go f found
  where
    go : (f : Found) (found : List Found) → end_after rules (f.place + 32 + rules.block_bits) found
        ≡ end_of rules (f ∷ found)
    go f [] = refl
    go f (g ∷ found) = go g found

-- where nothing stands before the bits, their first place is not bridged
first-matched : (rules : Rules) (at : ℕ) (bits : List Bool) (f : Found) (found : List Found)
    → places_from rules at 0 None bits ≡ f ∷ found → f.bridged ≡ false
first-matched rules at [] f found e = let no : [] ≡ f ∷ found = sym (places_from-nil rules at 0 None) ∙ e in absurd (cc)
first-matched rules at (b ∷ bits) f found e =
    go (λ e. first-matched rules (at + 1) bits f found e) (seen (place_at rules at None (b ∷ bits)))
  where
    matched : (g : Found) → place_at rules at None (b ∷ bits) ≡ Some g → g.bridged ≡ false
    matched g h =
        let s = place_at-stands rules at None (b ∷ bits) g h in
        not-bridged-here rules at (b ∷ bits) (place_polarity rules None (b ∷ bits)) g
        (sym (place_at-room rules at None (b ∷ bits) s.room) ∙ h)

    go : (places_from rules (at + 1) 0 None bits ≡ f ∷ found → f.bridged ≡ false)
        → Seen (place_at rules at None (b ∷ bits)) → f.bridged ≡ false
    go next (none h) = next (sym (places_from-miss rules at None b bits h) ∙ e)
    go next (some g h) =
        let cons : g ∷ places_from rules (at + 1) (31 + rules.block_bits) (Some (before_next None g)) bits ≡ f
        ∷ found = sym (places_from-one rules at None b bits g h) ∙ e in
        let same : g ≡ f = cc in
        ap (λ (v : Found). v.bridged) (sym same) ∙ matched g h

-- the bits of a codeblock are skipped, as many as there are
places_from-skipped : (rules : Rules) (at skip : ℕ) (before : Option Before) (bits : List Bool) → skip ≤ length bits
    → places_from rules at skip before bits ≡ places_from rules (at + skip) 0 before (drop skip bits)
places_from-skipped rules at skip before bits long =
    let size : length (take skip bits) ≡ skip = length-take-le skip bits long in
    (λ i. places_from rules at (sym size i) before (sym (take-append-drop skip bits) i))
    ∙ places_from-skip rules at before (take skip bits) (drop skip bits)
    ∙ ap (λ n. places_from rules (at + n) 0 before (drop skip bits)) size

-- what the first of these places says of those after it
record Next (rules : Rules) (at : ℕ) (before : Option Before) (bits : List Bool) (f : Found)
    (found : List Found) : Type 0 where
  start : at ≤ f.place
  is : found ≡ places_from rules (f.place + 32 + rules.block_bits) 0 (Some (before_next before f))
      (drop (f.place + 32 + rules.block_bits - at) bits)

next-of : (rules : Rules) (at : ℕ) (before : Option Before) (bits : List Bool) (f : Found) (found : List Found)
    → places_from rules at 0 before bits ≡ f ∷ found → Next rules at before bits f found
next-of rules at before [] f found e =
    let no : [] ≡ f ∷ found = sym (places_from-nil rules at 0 before) ∙ e in absurd (cc)
next-of rules at before (b ∷ bits) f found e =
    go (λ e. next-of rules (at + 1) None bits f found e) (seen (place_at rules at before (b ∷ bits)))
  where
    go : (places_from rules (at + 1) 0 None bits ≡ f ∷ found → Next rules (at + 1) None bits f found)
        → Seen (place_at rules at before (b ∷ bits)) → Next rules at before (b ∷ bits) f found
    go next (none h) =
        let later : places_from rules (at + 1) 0 None bits ≡ f ∷ found =
        sym (places_from-miss rules at before b bits h) ∙ e in
        let n = next later in
        let start = n.start in
        let further : suc (f.place + 32 + rules.block_bits - (at + 1)) ≡ f.place + 32 + rules.block_bits - at =
        omega arith in
        let rest : drop (f.place + 32 + rules.block_bits - (at + 1)) bits
        ≡ drop (f.place + 32 + rules.block_bits - at) (b ∷ bits) = ap (λ k. drop k (b ∷ bits)) further in
        record {
          start = omega arith;
          is =
              n.is ∙ (λ i. places_from rules (f.place + 32 + rules.block_bits) 0
              (Some (after-matched before f (first-matched rules (at + 1) bits f found later) i)) (rest i));
        }
    go next (some g h) =
        let s = place_at-stands rules at before (b ∷ bits) g h in
        let room = s.room in
        let cons : g ∷ places_from rules (at + 1) (31 + rules.block_bits) (Some (before_next before g)) bits ≡ f
        ∷ found = sym (places_from-one rules at before b bits g h) ∙ e in
        let same : g ≡ f = cc in
        let tail : places_from rules (at + 1) (31 + rules.block_bits) (Some (before_next before g)) bits ≡ found = cc in
        let place : f.place ≡ at = ap (λ (v : Found). v.place) (sym same) ∙ s.place in
        let there : at + 1 + (31 + rules.block_bits) ≡ f.place + 32 + rules.block_bits = omega arith in
        let further : suc (31 + rules.block_bits) ≡ f.place + 32 + rules.block_bits - at = omega arith in
        let rest : drop (31 + rules.block_bits) bits ≡ drop (f.place + 32 + rules.block_bits - at) (b ∷ bits) =
        ap (λ k. drop k (b ∷ bits)) further in
        record {
          start = omega arith;
          is =
              sym tail ∙ places_from-skipped rules (at + 1) (31 + rules.block_bits) (Some (before_next before g)) bits
              (omega arith)
              ∙ (λ i. places_from rules (there i) 0 (Some (before_next before (same i))) (rest i));
        }

-- after the first of the places the others are those after the end of their codeblocks
places_from-cut : (rules : Rules) (bits : List Bool) (found rest : List Found) (at : ℕ) (before : Option Before)
    → places_from rules at 0 before (drop at bits) ≡ found ++ rest
    → rest ≡ places_from rules (end_after rules at found) 0 (before_past before found)
    (drop (end_after rules at found) bits)
places_from-cut rules bits [] rest at before e = sym e
places_from-cut rules bits (f ∷ found) rest at before e =
    let n = next-of rules at before (drop at bits) f (found ++ rest) e in
    let start = n.start in
    let there : at + (f.place + 32 + rules.block_bits - at) ≡ f.place + 32 + rules.block_bits = omega arith in
    places_from-cut rules bits found rest (f.place + 32 + rules.block_bits) (Some (before_next before f))
    (sym (n.is ∙ ap (places_from rules (f.place + 32 + rules.block_bits) 0 (Some (before_next before f)))
    (drop-drop (f.place + 32 + rules.block_bits - at) at bits ∙ ap (λ k. drop k bits) there)))

-- the end of these codeblocks and then of others
pub end_after-append : (rules : Rules) (end : ℕ) (found more : List Found)
    → end_after rules end (found ++ more) ≡ end_after rules (end_after rules end found) more
end_after-append rules end [] more = refl
end_after-append rules end (f ∷ found) more = end_after-append rules (f.place + 32 + rules.block_bits) found more

-- no codeblock ends after the bits
end-within : (rules : Rules) (end : ℕ) (found : List Found) → EndBefore rules end found → end_of rules found ≤ end
end-within rules end [] all = omega arith
end-within rules end (f ∷ []) all = all.0
end-within rules end (f ∷ g ∷ found) all = end-within rules end (g ∷ found) all.1

end-prefix : (rules : Rules) (end : ℕ) (found more : List Found) → EndBefore rules end (found ++ more)
    → EndBefore rules end found
end-prefix rules end [] more all = tt
end-prefix rules end (f ∷ found) more all = (all.0, end-prefix rules end found more all.1)

-- the first of the places, and then the others
found-rest : (all found : List Found) → take (length found) all ≡ found → all ≡ found ++ drop (length found) all
found-rest all found first = sym (take-append-drop (length found) all) ∙ ap (λ l. l ++ drop (length found) all) first

pub end-there : (rules : Rules) (bits : List Bool) (found : List Found)
    → take (length found) (places rules bits) ≡ found → end_of rules found ≤ length bits
end-there rules bits found first =
    end-within rules (length bits) found (end-prefix rules (length bits) found (drop (length found) (places rules bits))
    (subst (EndBefore rules (length bits)) (found-rest (places rules bits) found first) (places-end rules bits)))

-- they are so in a longer list, and after them stand the places after the end of their codeblocks
longer : (rules : Rules) (bits more : List Bool) (found : List Found) → take (length found) (places rules bits) ≡ found
    → places rules (bits ++ more) ≡ found ++ (drop (length found) (places rules bits)
    ++ (places-append rules bits more).rest)
longer rules bits more found first =
    let go = places-append rules bits more in
    go.is ∙ ap (λ l. l ++ go.rest) (found-rest (places rules bits) found first)
    ∙ append_assoc found (drop (length found) (places rules bits)) go.rest

pub first-stays : (rules : Rules) (bits more : List Bool) (found : List Found)
    → take (length found) (places rules bits) ≡ found → take (length found) (places rules (bits ++ more)) ≡ found
first-stays rules bits more found first =
    ap (take (length found)) (longer rules bits more found first)
    ∙ take_at found (drop (length found) (places rules bits) ++ (places-append rules bits more).rest)
    (length found) refl

pub places-after : (rules : Rules) (bits more : List Bool) (found : List Found)
    → take (length found) (places rules bits) ≡ found
    → places rules (bits ++ more) ≡ found ++ places_from rules (end_of rules found) 0 (before_past None found)
    (drop (end_of rules found) bits ++ more)
places-after rules bits more found first =
    let all = longer rules bits more found first in
    let rest = drop (length found) (places rules bits) ++ (places-append rules bits more).rest in
    let end = end_after-is rules found in
    all ∙ ap (λ l. found ++ l) (places_from-cut rules (bits ++ more) found rest 0 None all
    ∙ (λ i. places_from rules (end i) 0 (before_past None found) (drop (end i) (bits ++ more)))
    ∙ ap (places_from rules (end_of rules found) 0 (before_past None found))
    (drop-append-le (end_of rules found) bits more (end-there rules bits found first)))
