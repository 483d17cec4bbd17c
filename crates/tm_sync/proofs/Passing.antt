-- Bits that are passed at which no place stands.
use Rattle.std.proofs.Common.{◌≡◌, ℕ, zero, suc, ◌+◌, ◌<◌, ◌≤◌, Bool, true, false, cond, ◌&&◌, nat_le, List, [], ◌∷◌, length, drop, refl, sym, ap, ◌∙◌, arith, Option, Some, None, IfSome, ◌⊎◌, inl, inr}
use Rattle.std.proofs.lemmas.Bool.{cases_Bool, cases_lt}
use Rattle.std.proofs.lemmas.Bool.Decides.{nat_tests}
use Rattle.tm_sync.specs.declared.found.Found.{Found}
use Rattle.tm_sync.specs.declared.found.Columns.{Columns}
use Rattle.tm_sync.specs.Places.{Rules, match_of, place_at, place_by, place_polarity, found_at, before_next}
use Rattle.tm_sync.specs.Rescan.{Soundness, Last, ends_at, is_inside, is_open, sound_place, place_outside, place_inside, place_here, last_at, places_after}
use Rattle.tm_sync.specs.Finding.{kept_at, always}
use Rattle.tm_sync.proofs.Steps.{place_at-room}
use Rattle.tm_sync.proofs.Longer.{Seen, none, some, seen}
use Rattle.tm_sync.proofs.Rescanned.{places_after-nil, places_after-miss, places_after-one, place_here-inside, place_here-outside}
use Rattle.tm_sync.proofs.Prefixes.{IsPast, past-outside, past-next, place_here-short, inside-room, inside-short, outside-none}

-- ---- a place that is past has no say

place_here-past : (rules : Rules) (columns : Option Columns) (sound : Soundness) (at : ℕ) (last other : Option Last)
    (bits : List Bool) → IsPast at last → IsPast at other
    → place_here rules columns sound at last bits ≡ place_here rules columns sound at other bits
place_here-past rules columns sound at last other bits past too =
    let out = past-outside at last past in
    let out' = past-outside at other too in
    place_here-outside rules columns sound at last bits out.0
    ∙ ap (λ before. place_outside rules columns bits (place_at rules at before bits)) (out.1 ∙ sym out'.1)
    ∙ sym (place_here-outside rules columns sound at other bits out'.0)

pub places_after-past : (rules : Rules) (columns : Option Columns) (sound : Soundness) (at : ℕ)
    (last other : Option Last) (bits : List Bool) → IsPast at last → IsPast at other
    → places_after rules columns sound at last bits ≡ places_after rules columns sound at other bits
places_after-past rules columns sound at last other [] past too =
    places_after-nil rules columns sound at last ∙ sym (places_after-nil rules columns sound at other)
places_after-past rules columns sound at last other (b ∷ bits) past too =
    go (places_after-past rules columns sound (at + 1) last other bits (past-next at last past)
    (past-next at other too)) (seen (place_here rules columns sound at last (b ∷ bits)))
  where
    here : place_here rules columns sound at last (b ∷ bits) ≡ place_here rules columns sound at other (b ∷ bits)
    here = place_here-past rules columns sound at last other (b ∷ bits) past too

    ends : ends_at at last ≡ ends_at at other
    ends = (past-outside at last past).1 ∙ sym (past-outside at other too).1

    go : places_after rules columns sound (at + 1) last bits ≡ places_after rules columns sound (at + 1) other bits
        → Seen (place_here rules columns sound at last (b ∷ bits))
        → places_after rules columns sound at last (b ∷ bits) ≡ places_after rules columns sound at other (b ∷ bits)
    go next (none e) =
        places_after-miss rules columns sound at last b bits e ∙ next
        ∙ sym (places_after-miss rules columns sound at other b bits (sym here ∙ e))
    go next (some f e) =
        let last_is : last_at rules sound at last f ≡ last_at rules sound at other f =
        λ i. record {
          end = at + 32 + rules.block_bits;
          before = before_next (ends i) f;
          sound = sound at f.inverted;
        } in
        places_after-one rules columns sound at last b bits f e
        ∙ ap (λ (l : Last). f ∷ places_after rules columns sound (at + 1) (Some l) bits) last_is
        ∙ sym (places_after-one rules columns sound at other b bits f (sym here ∙ e))

-- so only one whose codeblock goes on is kept
pub places_after-kept : (rules : Rules) (columns : Option Columns) (sound : Soundness) (at : ℕ) (last : Option Last)
    (bits : List Bool) → places_after rules columns sound at last bits
    ≡ places_after rules columns sound at (kept_at at last) bits
places_after-kept rules columns sound at None bits = refl
places_after-kept rules columns sound at (Some last) bits = go (cases_lt last.end at)
  where
    go : (last.end < at) ⊎ (at ≤ last.end) → places_after rules columns sound at (Some last) bits
        ≡ places_after rules columns sound at (kept_at at (Some last)) bits
    go (inl past) =
        let test : nat_le at last.end ≡ false = grind (arith, nat_tests) in
        places_after-past rules columns sound at (Some last) None bits past tt
        ∙ ap (λ c. places_after rules columns sound at (cond c (Some last) None) bits) (sym test)
    go (inr on) =
        let test : nat_le at last.end ≡ true = grind (arith, nat_tests) in
        ap (λ c. places_after rules columns sound at (cond c (Some last) None) bits) (sym test)

-- ---- bits at which no place stands

pub passed-none : (rules : Rules) (columns : Option Columns) (sound : Soundness) (at : ℕ) (last : Option Last)
    (bits : List Bool) (count : ℕ) → count ≤ length bits
    → ((q : ℕ) → q < count → place_here rules columns sound (at + q) last (drop q bits) ≡ None)
    → places_after rules columns sound at last bits ≡ places_after rules columns sound (at + count) last (drop count bits)
passed-none rules columns sound at last bits zero there each =
    ap (λ n. places_after rules columns sound n last bits) (omega arith)
passed-none rules columns sound at last [] (suc count) there each = absurd (omega arith)
passed-none rules columns sound at last (b ∷ bits) (suc count) there each =
    let first : at + 0 ≡ at = omega arith in
    places_after-miss rules columns sound at last b bits
    (ap (λ n. place_here rules columns sound n last (b ∷ bits)) (sym first) ∙ each 0 (omega arith))
    ∙ passed-none rules columns sound (at + 1) last bits count (omega arith)
    (λ q below. let moved : at + 1 + q ≡ at + suc q = omega arith in
    ap (λ n. place_here rules columns sound n last (drop q bits)) moved ∙ each (suc q) (omega arith))
    ∙ ap (λ n. places_after rules columns sound n last (drop count bits)) (omega arith)

-- inside, where it is not open
pub none-shut : (rules : Rules) (columns : Option Columns) (sound : Soundness) (at : ℕ) (last : Last) (bits : List Bool)
    → at < last.end → IfSome columns (λ c. is_open rules c at last bits ≡ false)
    → place_here rules columns sound at (Some last) bits ≡ None
none-shut rules columns sound at last bits within shut =
    place_here-inside rules columns sound at (Some last) bits (grind (arith, nat_tests)) ∙ go columns shut
  where
    go : (columns : Option Columns) → IfSome columns (λ c. is_open rules c at last bits ≡ false)
        → place_inside rules columns sound at (Some last) bits ≡ None
    go None shut = refl
    go (Some columns) shut = by (cases_lt (length bits) (32 + rules.block_bits))
      where
        by : (length bits < 32 + rules.block_bits) ⊎ (32 + rules.block_bits ≤ length bits)
            → place_inside rules (Some columns) sound at (Some last) bits ≡ None
        by (inl short) = inside-short rules (Some columns) sound at (Some last) bits short
        by (inr room) =
            inside-room rules columns sound at last bits room
            ∙ ap (λ c. cond c (sound_place sound at bits (match_of rules bits)) None) shut

pub cond-same : {A : Type 0} (c : Bool) (x : A) → cond c x x ≡ x
cond-same true x = refl
cond-same false x = refl

-- inside, where no marker matches
pub none-unmatched : (rules : Rules) (columns : Option Columns) (sound : Soundness) (at : ℕ) (last : Last)
    (bits : List Bool) → at < last.end → match_of rules bits ≡ None
    → place_here rules columns sound at (Some last) bits ≡ None
none-unmatched rules columns sound at last bits within far =
    place_here-inside rules columns sound at (Some last) bits (grind (arith, nat_tests)) ∙ go columns
  where
    go : (columns : Option Columns) → place_inside rules columns sound at (Some last) bits ≡ None
    go None = refl
    go (Some columns) = by (cases_lt (length bits) (32 + rules.block_bits))
      where
        by : (length bits < 32 + rules.block_bits) ⊎ (32 + rules.block_bits ≤ length bits)
            → place_inside rules (Some columns) sound at (Some last) bits ≡ None
        by (inl short) = inside-short rules (Some columns) sound at (Some last) bits short
        by (inr room) =
            inside-room rules columns sound at last bits room
            ∙ ap (λ o. cond (is_open rules columns at last bits) (sound_place sound at bits o) None) far
            ∙ cond-same (is_open rules columns at last bits) None

-- where no codeblock ends right before, and no marker matches or none verifies it
pub none-outside : (rules : Rules) (columns : Option Columns) (sound : Soundness) (at : ℕ) (last : Option Last)
    (bits : List Bool) → IsPast at last → place_polarity rules None bits ≡ None
    → place_here rules columns sound at last bits ≡ None
none-outside rules columns sound at last bits past far = go (cases_lt (length bits) (32 + rules.block_bits))
  where
    go : (length bits < 32 + rules.block_bits) ⊎ (32 + rules.block_bits ≤ length bits)
        → place_here rules columns sound at last bits ≡ None
    go (inl short) = place_here-short rules columns sound at last bits short
    go (inr room) =
        let out = past-outside at last past in
        place_here-outside rules columns sound at last bits out.0
        ∙ ap (λ before. place_outside rules columns bits (place_at rules at before bits)) out.1
        ∙ ap (place_outside rules columns bits) (place_at-room rules at None bits room
        ∙ ap (place_by rules at None bits) far)
        ∙ outside-none rules columns bits

-- ---- what is found, and whether its codeblock is sound

-- inside a codeblock what is found is a place where its own codeblock is sound; elsewhere it is one
pub place-answered : (rules : Rules) (columns : Option Columns) (sound : Soundness) (at : ℕ) (last : Option Last)
    (bits : List Bool) (f : Found) → place_here rules columns always at last bits ≡ Some f
    → ((is_inside at last ≡ false) × (place_here rules columns sound at last bits ≡ Some f))
    ⊎ ((is_inside at last ≡ true)
    × (place_here rules columns sound at last bits ≡ cond (sound at f.inverted) (Some f) None))
place-answered rules columns sound at last bits f e = go (cases_Bool (is_inside at last))
  where
    found : (o : Option Bool) → sound_place always at bits o ≡ Some f
        → sound_place sound at bits o ≡ cond (sound at f.inverted) (Some f) None
    found None e = absurd (cc)
    found (Some inverted) e =
        let is : found_at at false inverted bits ≡ f = cc in
        ap (λ (g : Found). cond (sound at g.inverted) (Some g) None) is

    by : (c : Bool) (o : Option Bool) → cond c (sound_place always at bits o) None ≡ Some f
        → cond c (sound_place sound at bits o) None ≡ cond (sound at f.inverted) (Some f) None
    by true o e = found o e
    by false o e = absurd (cc)

    inside : (columns : Option Columns) (last : Option Last) → place_inside rules columns always at last bits ≡ Some f
        → place_inside rules columns sound at last bits ≡ cond (sound at f.inverted) (Some f) None
    inside None last e = absurd (cc)
    inside (Some columns) None e = absurd (cc)
    inside (Some columns) (Some last) e =
        by (nat_le (32 + rules.block_bits) (length bits) && is_open rules columns at last bits) (match_of rules bits) e

    go : (is_inside at last ≡ true) ⊎ (is_inside at last ≡ false)
        → ((is_inside at last ≡ false) × (place_here rules columns sound at last bits ≡ Some f))
        ⊎ ((is_inside at last ≡ true)
        × (place_here rules columns sound at last bits ≡ cond (sound at f.inverted) (Some f) None))
    go (inl in_it) =
        inr (
          in_it,
          place_here-inside rules columns sound at last bits in_it
              ∙ inside columns last (sym (place_here-inside rules columns always at last bits in_it) ∙ e),
        )
    go (inr out) =
        inl (
          out,
          place_here-outside rules columns sound at last bits out
              ∙ sym (place_here-outside rules columns always at last bits out) ∙ e,
        )
