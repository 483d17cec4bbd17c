-- The first place whose marker is there, in bits that grow at their end.
use Rattle.std.proofs.Common.{◌≡◌, ℕ, suc, ◌+◌, ◌*◌, ◌<◌, ◌≤◌, Bool, true, false, cond, nat_le, List, [], ◌∷◌, ◌++◌, length, refl, sym, ap, ◌∙◌, arith, Option, Some, None, append_assoc, length-append, ◌⊎◌, inl, inr}
use Rattle.std.specs.Option.{option_or}
use Rattle.std.proofs.lemmas.Bool.{cases_lt}
use Rattle.std.proofs.lemmas.Bool.Decides.{nat_tests}
use Rattle.tm_sync.specs.declared.found.Found.{Found}
use Rattle.tm_sync.specs.declared.found.Before.{Before}
use Rattle.tm_sync.specs.Places.{Rules, match_of, place_polarity, verify_bits, before_next, found_at, place_by, place_at, places_from}
use Rattle.tm_sync.specs.Searching.{first_place, deciding_bits}
use Rattle.tm_sync.specs.Marked.{ready}
use Rattle.tm_sync.proofs.Steps.{places_from-nil, places_from-short, places_from-miss, places_from-hit, places_from-unsettled, settled-verified, place_polarity-append, place_at-room, place_at-short, ready-none}
use Rattle.tm_sync.proofs.Longer.{Seen, none, some, seen, place_by-append, place_by-place, places_from-room}

-- the place that the first 32 bits are
abbrev pub here : Rules → ℕ → Option Before → List Bool → Option Found
here rules at before bits = place_by rules at before bits (place_polarity rules before bits)

-- a marker is among the bits that decide a place, and the markers that verify it where it is searched for
pub deciding-marker : (rules : Rules) (before : Option Before) → 32 ≤ deciding_bits rules before
deciding-marker rules None = omega arith
deciding-marker rules (Some before) = omega arith

deciding-most : (rules : Rules) (before : Option Before) → deciding_bits rules before ≤ 32 + verify_bits rules
deciding-most rules None = omega arith
deciding-most rules (Some before) = omega arith

pub here-append : (rules : Rules) (at : ℕ) (before : Option Before) (bits more : List Bool)
    → deciding_bits rules before ≤ length bits → here rules at before (bits ++ more) ≡ here rules at before bits
here-append rules at before bits more long =
    let marker = deciding-marker rules before in
    ap (place_by rules at before (bits ++ more)) (place_polarity-append rules before bits more long)
    ∙ place_by-append rules at before bits more (place_polarity rules before bits) (omega arith)

-- ---- the equations
pub first_place-nil : (rules : Rules) (at : ℕ) (before : Option Before) → first_place rules at before [] ≡ None
unfolding first_place
first_place-nil rules at before = refl

tests_true : (m n : ℕ) → m ≤ n → nat_le m n ≡ true
tests_true m n p = grind (arith, nat_tests)

tests_false : (m n : ℕ) → n < m → nat_le m n ≡ false
tests_false m n p = grind (arith, nat_tests)

first_place-cons : (rules : Rules) (at : ℕ) (before : Option Before) (b : Bool) (bits : List Bool) (o : Option Found)
    → deciding_bits rules before ≤ length (b ∷ bits) → here rules at before (b ∷ bits) ≡ o
    → first_place rules at before (b ∷ bits) ≡ option_or o (first_place rules (at + 1) None bits)
unfolding first_place
first_place-cons rules at before b bits o long e =
    let test : nat_le (deciding_bits rules before) (length (b ∷ bits)) ≡ true =
    tests_true (deciding_bits rules before) (length (b ∷ bits)) long in
    λ i. cond (test i) (option_or (e i) (first_place rules (at + 1) None bits)) None

first_place-few : (rules : Rules) (at : ℕ) (before : Option Before) (b : Bool) (bits : List Bool)
    → length (b ∷ bits) < deciding_bits rules before → first_place rules at before (b ∷ bits) ≡ None
unfolding first_place
first_place-few rules at before b bits few =
    let test : nat_le (deciding_bits rules before) (length (b ∷ bits)) ≡ false =
    tests_false (deciding_bits rules before) (length (b ∷ bits)) few in
    ap (λ c. cond c (option_or (here rules at before (b ∷ bits)) (first_place rules (at + 1) None bits)) None) test

pub first_place-short : (rules : Rules) (at : ℕ) (before : Option Before) (bits : List Bool)
    → length bits < deciding_bits rules before → first_place rules at before bits ≡ None
first_place-short rules at before [] few = first_place-nil rules at before
first_place-short rules at before (b ∷ bits) few = first_place-few rules at before b bits few

pub hit : (rules : Rules) (at : ℕ) (before : Option Before) (b : Bool) (bits : List Bool) (f : Found)
    → deciding_bits rules before ≤ length (b ∷ bits) → here rules at before (b ∷ bits) ≡ Some f
    → first_place rules at before (b ∷ bits) ≡ Some f
hit rules at before b bits f long e = first_place-cons rules at before b bits (Some f) long e

miss : (rules : Rules) (at : ℕ) (before : Option Before) (b : Bool) (bits : List Bool)
    → deciding_bits rules before ≤ length (b ∷ bits) → here rules at before (b ∷ bits) ≡ None
    → first_place rules at before (b ∷ bits) ≡ first_place rules (at + 1) None bits
miss rules at before b bits long e = first_place-cons rules at before b bits None long e

-- what a first place says of the bits that it was found in
data First (rules : Rules) (at : ℕ) (before : Option Before) (b : Bool) (bits : List Bool) (f : Found) : Type 0 where
  at_start : deciding_bits rules before ≤ length (b ∷ bits) → here rules at before (b ∷ bits) ≡ Some f
      → First rules at before b bits f
  after_it : deciding_bits rules before ≤ length (b ∷ bits) → here rules at before (b ∷ bits) ≡ None
      → first_place rules (at + 1) None bits ≡ Some f → First rules at before b bits f

first : (rules : Rules) (at : ℕ) (before : Option Before) (b : Bool) (bits : List Bool) (f : Found)
    → first_place rules at before (b ∷ bits) ≡ Some f → First rules at before b bits f
first rules at before b bits f e = go (cases_lt (length (b ∷ bits)) (deciding_bits rules before))
  where
    roomy : deciding_bits rules before ≤ length (b ∷ bits) → Seen (here rules at before (b ∷ bits))
        → First rules at before b bits f
    roomy long (none h) = after_it long h (sym (miss rules at before b bits long h) ∙ e)
    roomy long (some g h) =
        let same : Some g ≡ Some f = sym (hit rules at before b bits g long h) ∙ e in at_start long (h ∙ same)

    go : (length (b ∷ bits) < deciding_bits rules before) ⊎ (deciding_bits rules before ≤ length (b ∷ bits))
        → First rules at before b bits f
    go (inl few) = let no : None ≡ Some f = sym (first_place-few rules at before b bits few) ∙ e in absurd (cc)
    go (inr long) = roomy long (seen (here rules at before (b ∷ bits)))

none_ahead : (rules : Rules) (at : ℕ) (before : Option Before) (b : Bool) (bits : List Bool)
    → deciding_bits rules before ≤ length (b ∷ bits) → first_place rules at before (b ∷ bits) ≡ None
    → (here rules at before (b ∷ bits) ≡ None) × (first_place rules (at + 1) None bits ≡ None)
none_ahead rules at before b bits long e = go (seen (here rules at before (b ∷ bits)))
  where
    go : Seen (here rules at before (b ∷ bits)) → (here rules at before (b ∷ bits) ≡ None)
        × (first_place rules (at + 1) None bits ≡ None)
    go (none h) = (h, sym (miss rules at before b bits long h) ∙ e)
    go (some g h) = let no : Some g ≡ None = sym (hit rules at before b bits g long h) ∙ e in absurd (cc)

-- ---- one bit more
-- a first place stays the first
pub first_place-stays : (rules : Rules) (at : ℕ) (before : Option Before) (bits more : List Bool) (f : Found)
    → first_place rules at before bits ≡ Some f → first_place rules at before (bits ++ more) ≡ Some f
first_place-stays rules at before [] more f e =
    let no : None ≡ Some f = sym (first_place-nil rules at before) ∙ e in absurd (cc)
first_place-stays rules at before (b ∷ bits) more f e =
    go (λ e. first_place-stays rules (at + 1) None bits more f e) (first rules at before b bits f e)
  where
    go : (first_place rules (at + 1) None bits ≡ Some f → first_place rules (at + 1) None (bits ++ more) ≡ Some f)
        → First rules at before b bits f → first_place rules at before ((b ∷ bits) ++ more) ≡ Some f
    go next (at_start long h) =
        hit rules at before b (bits ++ more) f (omega (arith, long, length-append bits more))
        (here-append rules at before (b ∷ bits) more long ∙ h)
    go next (after_it long h rest) =
        miss rules at before b (bits ++ more) (omega (arith, long, length-append bits more))
        (here-append rules at before (b ∷ bits) more long ∙ h) ∙ next rest

-- Where none was, the only new one is right after a codeblock, where the 32 bits there are the last ones ..
pub first_place-right : (rules : Rules) (at : ℕ) (before : Before) (bits : List Bool) → length bits ≡ 32
    → first_place rules at (Some before) bits ≡ here rules at (Some before) bits
first_place-right rules at before [] long = absurd (omega arith)
first_place-right rules at before (b ∷ bits) long = go (seen (here rules at (Some before) (b ∷ bits)))
  where
    go : Seen (here rules at (Some before) (b ∷ bits)) → first_place rules at (Some before) (b ∷ bits)
        ≡ here rules at (Some before) (b ∷ bits)
    go (none h) =
        miss rules at (Some before) b bits (omega arith) h ∙ first_place-short rules (at + 1) None bits (omega arith)
        ∙ sym h
    go (some f h) = hit rules at (Some before) b bits f (omega arith) h ∙ sym h

-- .. or that which the last 32 bits verify
pub first_place-settles : (rules : Rules) (at : ℕ) (before : Option Before) (prefix init : List Bool) (b : Bool)
    → length init + 1 ≡ 32 + verify_bits rules → ready prefix before ≡ None
    → first_place rules at before (prefix ++ init) ≡ None → first_place rules at before (prefix ++ (init ++ b ∷ []))
    ≡ here rules (at + length prefix) None (init ++ b ∷ [])
first_place-settles rules at before [] [] b e free none_yet = absurd (omega arith)
first_place-settles rules at before [] (x ∷ init) b e free none_yet =
    ap (λ before. first_place rules at before (x ∷ (init ++ b ∷ []))) free
    ∙ go (seen (here rules at None (x ∷ (init ++ b ∷ []))))
    ∙ ap (λ n. here rules n None (x ∷ (init ++ b ∷ []))) at_is
  where
    size : length (init ++ b ∷ []) ≡ length init + 1
    size = length-append init (b ∷ [])

    at_is : at ≡ at + 0
    at_is = omega arith

    go : Seen (here rules at None (x ∷ (init ++ b ∷ []))) → first_place rules at None (x ∷ (init ++ b ∷ []))
        ≡ here rules at None (x ∷ (init ++ b ∷ []))
    go (none h) =
        let long = size in miss rules at None x (init ++ b ∷ []) (omega arith) h
        ∙ first_place-short rules (at + 1) None (init ++ b ∷ []) (omega arith) ∙ sym h
    go (some f h) = let long = size in hit rules at None x (init ++ b ∷ []) f (omega arith) h ∙ sym h
first_place-settles rules at before (y ∷ prefix) init b e free none_yet =
    let most = deciding-most rules before in
    let size = length-append prefix init in
    let more = length-append prefix (init ++ b ∷ []) in
    let last = length-append init (b ∷ []) in
    let long : deciding_bits rules before ≤ length ((y ∷ prefix) ++ init) = omega arith in
    let ahead = none_ahead rules at before y (prefix ++ init) long none_yet in
    let h : here rules at before (y ∷ (prefix ++ (init ++ b ∷ []))) ≡ None =
    ap (λ l. here rules at before (y ∷ l)) (sym (append_assoc prefix init (b ∷ [])))
    ∙ here-append rules at before ((y ∷ prefix) ++ init) (b ∷ []) long ∙ ahead.0 in
    let there : at + 1 + length prefix ≡ at + suc (length prefix) = omega arith in
    miss rules at before y (prefix ++ (init ++ b ∷ [])) (omega arith) h
    ∙ first_place-settles rules (at + 1) None prefix init b e (ready-none prefix) ahead.1
    ∙ ap (λ n. here rules n None (init ++ b ∷ [])) there

-- right after a codeblock, where no place is, the 32 bits match in no way
pub first_place-unmatched : (rules : Rules) (at : ℕ) (before : Before) (bits : List Bool) → 32 ≤ length bits
    → first_place rules at (Some before) bits ≡ None → match_of rules bits ≡ None
first_place-unmatched rules at before [] long none_yet = absurd (omega arith)
first_place-unmatched rules at before (b ∷ bits) long none_yet =
    go (match_of rules (b ∷ bits)) refl (none_ahead rules at (Some before) b bits long none_yet).0
  where
    go : (polarity : Option Bool) → match_of rules (b ∷ bits) ≡ polarity
        → place_by rules at (Some before) (b ∷ bits) (match_of rules (b ∷ bits)) ≡ None
        → match_of rules (b ∷ bits) ≡ None
    go None e h = e
    go (Some inverted) e h =
        let no : place_by rules at (Some before) (b ∷ bits) (Some inverted) ≡ None =
        ap (place_by rules at (Some before) (b ∷ bits)) (sym e) ∙ h in absurd (cc)

-- .. and else there is none
pub first_place-waits : (rules : Rules) (at : ℕ) (before : Before) (bits : List Bool) (b : Bool) → 32 ≤ length bits
    → length bits < 32 + verify_bits rules
    → first_place rules at (Some before) bits ≡ None → first_place rules at (Some before) (bits ++ b ∷ []) ≡ None
first_place-waits rules at before [] b long few none_yet = absurd (omega arith)
first_place-waits rules at before (x ∷ bits) b long few none_yet =
    let size = length-append bits (b ∷ []) in
    let ahead = none_ahead rules at (Some before) x bits long none_yet in
    miss rules at (Some before) x (bits ++ b ∷ []) (omega arith)
    (here-append rules at (Some before) (x ∷ bits) (b ∷ []) long ∙ ahead.0)
    ∙ first_place-short rules (at + 1) None (bits ++ b ∷ []) (omega arith)

-- ---- places
none-at : (rules : Rules) (at : ℕ) (before : Option Before) (bits : List Bool) → here rules at before bits ≡ None
    → place_at rules at before bits ≡ None
none-at rules at before bits h = go (cases_lt (length bits) (32 + rules.block_bits))
  where
    go : (length bits < 32 + rules.block_bits) ⊎ (32 + rules.block_bits ≤ length bits)
        → place_at rules at before bits ≡ None
    go (inl short) = place_at-short rules at before bits short
    go (inr room) = place_at-room rules at before bits room ∙ h

-- where no marker is there, no place is
pub places_from-none : (rules : Rules) (at : ℕ) (before : Option Before) (bits : List Bool)
    → first_place rules at before bits ≡ None → places_from rules at 0 before bits ≡ []
places_from-none rules at before [] e = places_from-nil rules at 0 before
places_from-none rules at before (b ∷ bits) e =
    go (λ e. places_from-none rules (at + 1) None bits e) (cases_lt (length (b ∷ bits)) (deciding_bits rules before))
  where
    few : (before : Option Before) → length (b ∷ bits) < deciding_bits rules before
        → places_from rules at 0 before (b ∷ bits) ≡ []
    few None short = let least = settled-verified rules in places_from-unsettled rules at (b ∷ bits) (omega arith)
    few (Some before) short = places_from-short rules at (Some before) (b ∷ bits) (omega arith)

    go : (first_place rules (at + 1) None bits ≡ None → places_from rules (at + 1) 0 None bits ≡ [])
        → (length (b ∷ bits) < deciding_bits rules before) ⊎ (deciding_bits rules before ≤ length (b ∷ bits))
        → places_from rules at 0 before (b ∷ bits) ≡ []
    go next (inl short) = few before short
    go next (inr long) =
        let ahead = none_ahead rules at before b bits long e in
        places_from-miss rules at before b bits (none-at rules at before (b ∷ bits) ahead.0) ∙ next ahead.1

-- a place that nothing stands before has a marker that matches
pub not-bridged-here : (rules : Rules) (at : ℕ) (bits : List Bool) (polarity : Option Bool) (f : Found)
    → place_by rules at None bits polarity ≡ Some f → f.bridged ≡ false
not-bridged-here rules at bits (Some inverted) f e =
    let is : found_at at false inverted bits ≡ f = cc in ap (λ (g : Found). g.bridged) (sym is)
not-bridged-here rules at bits None f e = absurd (cc)

not-bridged : (rules : Rules) (at : ℕ) (bits : List Bool) (f : Found) → first_place rules at None bits ≡ Some f
    → f.bridged ≡ false
not-bridged rules at [] f e = let no : None ≡ Some f = sym (first_place-nil rules at None) ∙ e in absurd (cc)
not-bridged rules at (b ∷ bits) f e = go (λ e. not-bridged rules (at + 1) bits f e) (first rules at None b bits f e)
  where
    go : (first_place rules (at + 1) None bits ≡ Some f → f.bridged ≡ false) → First rules at None b bits f
        → f.bridged ≡ false
    go next (at_start long h) = not-bridged-here rules at (b ∷ bits) (place_polarity rules None (b ∷ bits)) f h
    go next (after_it long h rest) = next rest

pub after-matched : (before : Option Before) (f : Found) → f.bridged ≡ false → before_next None f ≡ before_next before f
after-matched None f e = refl
after-matched (Some before) f e =
    λ i. record {
      inverted = f.inverted;
      bridged = (ap (λ (c : Bool). cond c 1 0) e ∙ sym (ap (λ (c : Bool). cond c (before.bridged + 1) 0) e)) i;
    }

-- a first place stands in the bits
pub first_place-start : (rules : Rules) (at : ℕ) (before : Option Before) (bits : List Bool) (f : Found)
    → first_place rules at before bits ≡ Some f → at ≤ f.place
first_place-start rules at before [] f e =
    let no : None ≡ Some f = sym (first_place-nil rules at before) ∙ e in absurd (cc)
first_place-start rules at before (b ∷ bits) f e =
    go (λ e. first_place-start rules (at + 1) None bits f e) (first rules at before b bits f e)
  where
    go : (first_place rules (at + 1) None bits ≡ Some f → at + 1 ≤ f.place) → First rules at before b bits f
        → at ≤ f.place
    go next (at_start long h) =
        let place : f.place ≡ at =
        place_by-place rules at before (b ∷ bits) (place_polarity rules before (b ∷ bits)) f h in
        omega arith
    go next (after_it long h rest) = let more = next rest in omega arith

-- a first place whose codeblock is whole is the place that is reported, and the search goes on after it
pub places_from-whole : (rules : Rules) (at : ℕ) (before : Option Before) (prefix rest : List Bool) (f : Found)
    → first_place rules at before (prefix ++ rest) ≡ Some f
    → f.place + 32 + rules.block_bits ≡ at + length prefix → places_from rules at 0 before (prefix ++ rest) ≡ f
    ∷ places_from rules (at + length prefix) 0 (Some (before_next before f)) rest
places_from-whole rules at before [] rest f e ends =
    let start = first_place-start rules at before rest f e in absurd (omega arith)
places_from-whole rules at before (b ∷ prefix) rest f e ends =
    go (λ e ends. places_from-whole rules (at + 1) None prefix rest f e ends)
    (first rules at before b (prefix ++ rest) f e)
  where
    go : (first_place rules (at + 1) None (prefix ++ rest) ≡ Some f
        → f.place + 32 + rules.block_bits ≡ at + 1 + length prefix
        → places_from rules (at + 1) 0 None (prefix ++ rest) ≡ f
        ∷ places_from rules (at + 1 + length prefix) 0 (Some (before_next None f)) rest)
        → First rules at before b (prefix ++ rest) f → places_from rules at 0 before ((b ∷ prefix) ++ rest) ≡ f
        ∷ places_from rules (at + length (b ∷ prefix)) 0 (Some (before_next before f)) rest
    go next (at_start long h) =
        let place : f.place ≡ at = place_by-place rules at before (b ∷ (prefix ++ rest))
        (place_polarity rules before (b ∷ (prefix ++ rest))) f h in
        let size : length (b ∷ prefix) ≡ 32 + rules.block_bits = omega arith in
        let there : at + 32 + rules.block_bits ≡ at + length (b ∷ prefix) = omega arith in
        places_from-hit rules at before (b ∷ prefix) rest f size
        (place_at-room rules at before ((b ∷ prefix) ++ rest) (omega (arith, length-append prefix rest)) ∙ h)
        ∙ ap (λ n. f ∷ places_from rules n 0 (Some (before_next before f)) rest) there
    go next (after_it long h later) =
        let there : at + 1 + length prefix ≡ at + length (b ∷ prefix) = omega arith in
        places_from-miss rules at before b (prefix ++ rest) (none-at rules at before (b ∷ (prefix ++ rest)) h)
        ∙ next later (omega arith)
        ∙ (λ i. f ∷ places_from rules (there i) 0 (Some (after-matched before f
        (not-bridged rules (at + 1) (prefix ++ rest) f later) i)) rest)

-- a first place whose codeblock is not whole is no place yet, nor is another
pub places_from-unfinished : (rules : Rules) (at : ℕ) (before : Option Before) (bits : List Bool) (f : Found)
    → first_place rules at before bits ≡ Some f
    → at + length bits < f.place + 32 + rules.block_bits → places_from rules at 0 before bits ≡ []
places_from-unfinished rules at before [] f e few = places_from-nil rules at 0 before
places_from-unfinished rules at before (b ∷ bits) f e few =
    go (λ e few. places_from-unfinished rules (at + 1) None bits f e few) (first rules at before b bits f e)
  where
    go : (first_place rules (at + 1) None bits ≡ Some f → at + 1 + length bits < f.place + 32 + rules.block_bits
        → places_from rules (at + 1) 0 None bits ≡ [])
        → First rules at before b bits f → places_from rules at 0 before (b ∷ bits) ≡ []
    go next (at_start long h) =
        let place : f.place ≡ at =
        place_by-place rules at before (b ∷ bits) (place_polarity rules before (b ∷ bits)) f h in
        places_from-short rules at before (b ∷ bits) (omega arith)
    go next (after_it long h rest) =
        places_from-miss rules at before b bits (none-at rules at before (b ∷ bits) h) ∙ next rest (omega arith)

-- the 32 bits of a first place are there
pub first_place-room : (rules : Rules) (at : ℕ) (before : Option Before) (bits : List Bool) (f : Found)
    → first_place rules at before bits ≡ Some f → f.place + 32 ≤ at + length bits
first_place-room rules at before [] f e =
    let no : None ≡ Some f = sym (first_place-nil rules at before) ∙ e in absurd (cc)
first_place-room rules at before (b ∷ bits) f e =
    go (λ e. first_place-room rules (at + 1) None bits f e) (first rules at before b bits f e)
  where
    go : (first_place rules (at + 1) None bits ≡ Some f → f.place + 32 ≤ at + 1 + length bits)
        → First rules at before b bits f → f.place + 32 ≤ at + suc (length bits)
    go next (at_start long h) =
        let place : f.place ≡ at =
        place_by-place rules at before (b ∷ bits) (place_polarity rules before (b ∷ bits)) f h in
        let marker = deciding-marker rules before in
        omega arith
    go next (after_it long h rest) = let more = next rest in omega arith

-- ---- how many places further bits bring
-- the first of them begins at the first place, whether or not its codeblock is whole
pub places_from-ahead : (rules : Rules) (at : ℕ) (before : Option Before) (bits more : List Bool) (f : Found)
    → first_place rules at before bits ≡ Some f
    → f.place + length (places_from rules at 0 before (bits ++ more)) * (32 + rules.block_bits)
    ≤ at + length bits + length more
places_from-ahead rules at before [] more f e =
    let no : None ≡ Some f = sym (first_place-nil rules at before) ∙ e in absurd (cc)
places_from-ahead rules at before (b ∷ bits) more f e =
    go (λ e. places_from-ahead rules (at + 1) None bits more f e) (first rules at before b bits f e)
  where
    go : (first_place rules (at + 1) None bits ≡ Some f → f.place + length
        (places_from rules (at + 1) 0 None (bits ++ more)) * (32 + rules.block_bits)
        ≤ at + 1 + length bits + length more)
        → First rules at before b bits f → f.place + length (places_from rules at 0 before ((b ∷ bits) ++ more)) *
        (32 + rules.block_bits) ≤ at + suc (length bits) + length more
    go next (at_start long h) =
        let place : f.place ≡ at =
        place_by-place rules at before (b ∷ bits) (place_polarity rules before (b ∷ bits)) f h in
        omega (arith, place, places_from-room rules at 0 before ((b ∷ bits) ++ more), length-append (b ∷ bits) more)
    go next (after_it long h rest) =
        let skipped = places_from-miss rules at before b (bits ++ more)
        (none-at rules at before (b ∷ (bits ++ more)) (here-append rules at before (b ∷ bits) more long ∙ h)) in
        omega (arith, ap (λ (fs : List Found). length fs * (32 + rules.block_bits)) skipped, next rest)

-- where none is there, its marker is not whole, or those that verify it are not there
pub places_from-none_ahead : (rules : Rules) (at : ℕ) (before : Option Before) (bits more : List Bool)
    → first_place rules at before bits ≡ None
    → length (places_from rules at 0 before (bits ++ more)) * (32 + rules.block_bits)
    ≤ 31 + verify_bits rules + length more
places_from-none_ahead rules at before [] more e = omega (arith, places_from-room rules at 0 before more)
places_from-none_ahead rules at before (b ∷ bits) more e =
    go (λ e. places_from-none_ahead rules (at + 1) None bits more e)
    (cases_lt (length (b ∷ bits)) (deciding_bits rules before))
  where
    go : (first_place rules (at + 1) None bits ≡ None → length (places_from rules (at + 1) 0 None (bits ++ more)) *
        (32 + rules.block_bits) ≤ 31 + verify_bits rules + length more)
        → (length (b ∷ bits) < deciding_bits rules before) ⊎ (deciding_bits rules before ≤ length (b ∷ bits))
        → length (places_from rules at 0 before ((b ∷ bits) ++ more)) * (32 + rules.block_bits)
        ≤ 31 + verify_bits rules + length more
    go next (inl few) =
        omega (
          arith,
          few,
          deciding-most rules before,
          places_from-room rules at 0 before ((b ∷ bits) ++ more),
          length-append (b ∷ bits) more,
        )
    go next (inr long) =
        let ahead = none_ahead rules at before b bits long e in
        let skipped = places_from-miss rules at before b (bits ++ more)
        (none-at rules at before (b ∷ (bits ++ more))
        (here-append rules at before (b ∷ bits) more long ∙ ahead.0)) in
        omega (arith, ap (λ (fs : List Found). length fs * (32 + rules.block_bits)) skipped, next ahead.1)
