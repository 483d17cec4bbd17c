-- What stands at the next bits of a search that looks inside codeblocks too.
use Rattle.std.proofs.Common.{◌≡◌, ℕ, zero, suc, ◌+◌, ◌-◌, ◌*◌, ◌<◌, ◌≤◌, Bool, true, false, cond, not, ◌==◌, ◌&&◌, ◌||◌, nat_le, nat_lt, List, [], ◌∷◌, ◌++◌, length, take, drop, refl, sym, ap, ◌∙◌, subst, arith, Option, Some, None, is_none, IfSome, IfNone, length-append, length-drop, ◌⊎◌, inl, inr}
use Rattle.std.specs.List.{list_all, range_with_len}
use Rattle.std.proofs.lemmas.List.{drop-append-le, drop-drop, length-take-le, take-append-drop}
use Rattle.std.proofs.lemmas.Bool.{cases_Bool}
use Rattle.std.proofs.lemmas.Bool.Decides.{nat_tests}
use Rattle.tm_sync.specs.declared.found.Found.{Found}
use Rattle.tm_sync.specs.declared.found.Before.{Before}
use Rattle.tm_sync.specs.declared.found.Columns.{Columns}
use Rattle.tm_sync.specs.Bits.{bits_bound}
use Rattle.tm_sync.specs.Places.{Rules, wrong_bits, match_of, matches_in, are_verified, verified, place_at, place_by, place_polarity, found_at, before_next, settled_by}
use Rattle.tm_sync.specs.Rescan.{Fits, Soundness, Last, reach, ends_at, is_inside, is_open, may_bridge, sound_place, place_outside, place_inside, place_here, last_at, places_after}
use Rattle.tm_sync.specs.Finding.{Ends, Finding, Finds, IsOpen, NoneIn, Passes, Tells, always, kept_at, places_left}
use Rattle.tm_sync.proofs.Steps.{are_verified-more, place_at-room, settled-room, wrong_bits-append}
use Rattle.tm_sync.proofs.Longer.{room_of}
use Rattle.tm_sync.proofs.Rescanned.{place_here-inside, place_here-outside, places_after-off, places_after-one}
use Rattle.tm_sync.proofs.Prefixes.{room_at, inside-room, match-later, outside-is, outside-none, place_here-append, place_here-place, place_here-room, places_after-short, places_after-unsettled}
use Rattle.tm_sync.proofs.Passing.{none-outside, none-shut, none-unmatched, passed-none, place-answered, places_after-kept}

pub fits-of : (rules : Rules) (columns : Option Columns)
    → IfSome columns (λ c. reach c ≤ rules.block_bits)
    → Fits rules columns
fits-of rules None fits = tt
fits-of rules (Some columns) fits = fits

-- the 32 bits of a marker alone tell how many differ
pub wrong-first : (inverted : Bool) (bits : List Bool) → 32 ≤ length bits
    → wrong_bits inverted (take 32 bits) ≡ wrong_bits inverted bits
wrong-first inverted bits long =
    let size : length (take 32 bits) ≡ 32 = length-take-le 32 bits long in
    sym (ap (wrong_bits inverted) (sym (take-append-drop 32 bits))
    ∙ wrong_bits-append inverted (take 32 bits) (drop 32 bits) (omega arith))

pub fits-view : (f g : Finding) → f ≡ g → IfSome f.columns (λ c. reach c ≤ f.rules.block_bits)
    → Fits g.rules g.columns
fits-view f g e fits = subst (λ (v : Finding). Fits v.rules v.columns) e
    (fits-of f.rules f.columns fits)

-- ---- markers that are looked at one after the other

-- whether none stands some symbols of each column on
pub none-step : (rules : Rules) (columns : Columns) (bits : List Bool) (seen : ℕ) (here : Bool)
    → seen < columns.strength
    → is_none (match_of rules (drop (columns.stride * (seen + 1)) bits)) ≡ here
    → list_all (λ k. is_none (match_of rules (drop (columns.stride * k) bits)))
    (range_with_len (1 + seen) (columns.strength - seen))
    ≡ (here && list_all (λ k. is_none (match_of rules (drop (columns.stride * k) bits)))
    (range_with_len (1 + (seen + 1)) (columns.strength - (seen + 1))))
none-step rules columns bits seen here some is = go (columns.strength - seen) refl
  where
    go : (n : ℕ) → columns.strength - seen ≡ n
        → list_all (λ k. is_none (match_of rules (drop (columns.stride * k) bits)))
        (range_with_len (1 + seen) n)
        ≡ (here && list_all (λ k. is_none (match_of rules (drop (columns.stride * k) bits)))
        (range_with_len (1 + (seen + 1)) (columns.strength - (seen + 1))))
    go zero e = absurd (omega arith)
    go (suc n) e =
        let next : 1 + seen ≡ seen + 1 = omega arith in
        let from : 1 + seen + 1 ≡ 1 + (seen + 1) = omega arith in
        let left : n ≡ columns.strength - (seen + 1) = omega arith in
        let first : is_none (match_of rules (drop (columns.stride * (1 + seen)) bits)) ≡ here =
        ap (λ k. is_none (match_of rules (drop (columns.stride * k) bits))) next ∙ is in
        λ i. first i && list_all (λ k. is_none (match_of rules (drop (columns.stride * k) bits)))
        (range_with_len (from i) (left i))

-- whether each verifies a place
pub verified-step : (rules : Rules) (inverted : Bool) (bits : List Bool) (seen : ℕ) (here : Bool)
    → seen < rules.verify → (seen + 1) * (32 + rules.block_bits) + 32 ≤ length bits
    → matches_in (match_of rules (drop ((seen + 1) * (32 + rules.block_bits)) bits)) inverted ≡ here
    → are_verified rules inverted (rules.verify - seen) (drop (seen * (32 + rules.block_bits)) bits)
    ≡ (here && are_verified rules inverted (rules.verify - (seen + 1))
    (drop ((seen + 1) * (32 + rules.block_bits)) bits))
verified-step rules inverted bits seen here some room is = go (rules.verify - seen) refl
  where
    go : (n : ℕ) → rules.verify - seen ≡ n
        → are_verified rules inverted n (drop (seen * (32 + rules.block_bits)) bits)
        ≡ (here && are_verified rules inverted (rules.verify - (seen + 1))
        (drop ((seen + 1) * (32 + rules.block_bits)) bits))
    go zero e = absurd (omega arith)
    go (suc n) e =
        let u : ℕ = 32 + rules.block_bits in
        let size = length-drop (seen * u) bits in
        let there : seen * u + u ≡ (seen + 1) * u = omega arith in
        let next : drop u (drop (seen * u) bits) ≡ drop ((seen + 1) * u) bits =
        drop-drop u (seen * u) bits ∙ ap (λ k. drop k bits) there in
        let left : n ≡ rules.verify - (seen + 1) = omega arith in
        are_verified-more rules inverted n (drop (seen * u) bits) (omega arith)
        ∙ (λ i. matches_in (match_of rules (next i)) inverted && are_verified rules inverted
        (left i) (next i))
        ∙ ap (λ c. c && are_verified rules inverted (rules.verify - (seen + 1))
        (drop ((seen + 1) * u) bits)) is

-- ---- bits that are passed

pub none-same : (f f' : Finding) (count : ℕ) (bits : List Bool) (sound : Soundness)
    (more : List Bool)
    → count ≤ length bits
    → ((q : ℕ) → q < count
    → place_here f.rules f.columns sound (f.passed + q) f.last (drop q (bits ++ more)) ≡ None)
    → f'.rules ≡ f.rules → f'.columns ≡ f.columns → f'.passed ≡ f.passed + count
    → f'.last ≡ kept_at f'.passed f.last
    → places_left f sound (bits ++ more) ≡ places_left f' sound (drop count bits ++ more)
none-same f f' count bits sound more within none rules columns passed last =
    let kept : kept_at (f.passed + count) f.last ≡ f'.last = ap (λ n. kept_at n f.last) (sym passed)
    ∙ sym last in
    passed-none f.rules f.columns sound f.passed f.last (bits ++ more) count
    (omega (arith, length-append bits more)) none
    ∙ places_after-kept f.rules f.columns sound (f.passed + count) f.last
    (drop count (bits ++ more))
    ∙ ap (places_after f.rules f.columns sound (f.passed + count)
    (kept_at (f.passed + count) f.last))
    (drop-append-le count bits more within)
    ∙ (λ i. places_after (sym rules i) (sym columns i) sound (sym passed i) (kept i)
    (drop count bits ++ more))

pub passes-none : (f f' : Finding) (count : ℕ) (bits : List Bool) → count ≤ length bits
    → NoneIn f count bits
    → f'.rules ≡ f.rules → f'.columns ≡ f.columns
    → (f.passed + length bits < bits_bound
    → (f'.passed ≡ f.passed + count) × (f'.last ≡ kept_at f'.passed f.last))
    → Passes f f' bits (drop count bits)
passes-none f f' count bits within none rules columns moved = record {
  rules = rules;
  columns = columns;
  count = count;
  within = within;
  rest = refl;
  passed = λ few. (moved few).0;
  same = λ few sound more.
      none-same f f' count bits sound more within (λ q below. none sound more q below) rules columns
      (moved few).0
      (moved few).1;
}

pub passes-then : (f g h : Finding) (a b c : List Bool) → Passes f g a b → Passes g h b c
    → Passes f h a c
passes-then f g h a b c p q =
    let size : length b ≡ length a - p.count = ap length p.rest ∙ length-drop p.count a in
    let within = p.within in
    let within' = q.within in
    let few' : f.passed + length a < bits_bound → g.passed + length b < bits_bound =
    λ few. let moved = p.passed few in omega arith in
    record {
      rules = q.rules ∙ p.rules;
      columns = q.columns ∙ p.columns;
      count = p.count + q.count;
      within = omega arith;
      rest = q.rest ∙ ap (drop q.count) p.rest ∙ drop-drop q.count p.count a;
      passed = λ few. let moved = p.passed few in let moved' = q.passed (few' few) in omega arith;
      same = λ few sound more. p.same few sound more ∙ q.same (few' few) sound more;
    }

-- ---- no place at the first bit, and one

pub one-none : (f : Finding) (bits : List Bool) → Fits f.rules f.columns
    → room_at f.rules f.passed f.last ≤ length bits
    → ((sound : Soundness) → place_here f.rules f.columns sound f.passed f.last bits ≡ None)
    → NoneIn f 1 bits
one-none f bits fits room none = λ sound more q below.
    let first : q ≡ 0 = omega arith in
    let at : f.passed + 0 ≡ f.passed = omega arith in
    ap (λ n. place_here f.rules f.columns sound (f.passed + n) f.last (drop n (bits ++ more))) first
    ∙ ap (λ n. place_here f.rules f.columns sound n f.last (bits ++ more)) at
    ∙ place_here-append f.rules f.columns sound f.passed f.last bits more fits room
    ∙ none sound

pub finds : (f : Finding) (bits : List Bool) (found : Found) → Fits f.rules f.columns
    → room_at f.rules f.passed f.last ≤ length bits
    → place_here f.rules f.columns always f.passed f.last bits ≡ Some found → Finds f bits found
finds f bits found fits room e = record {
  room = place_here-room f.rules f.columns always f.passed f.last bits found e;
  at = place_here-place f.rules f.columns always f.passed f.last bits found e;
  here = λ more. place_here-append f.rules f.columns always f.passed f.last bits more fits room ∙ e;
}

-- where the bits have no room for a codeblock, or do not settle a place that is searched for
pub ends-short : (f : Finding) (bits : List Bool) → length bits < 32 + f.rules.block_bits
    → Ends f bits
ends-short f bits short =
    let least = settled-room f.rules in
    record {
      none = λ sound. places_after-short f.rules f.columns sound f.passed f.last bits short;
      few = omega arith;
    }

pub ends-unsettled : (f : Finding) (bits : List Bool) → f.last ≡ None
    → length bits < settled_by f.rules.verify f.rules.block_bits → Ends f bits
ends-unsettled f bits last few = record {
  none = λ sound. ap (λ l. places_after f.rules f.columns sound f.passed l bits) last
      ∙ places_after-unsettled f.rules f.columns sound f.passed None bits tt few;
  few = few;
}

-- ---- inside a codeblock

pub inside-none : (f : Finding) (last : Last) (count : ℕ) (bits : List Bool) → f.last ≡ Some last
    → f.passed + count ≤ last.end → count + 31 ≤ length bits
    → ((q : ℕ) → q < count → match_of f.rules (drop q bits) ≡ None) → NoneIn f count bits
inside-none f last count bits is within room far = λ sound more q below.
    ap (λ l. place_here f.rules f.columns sound (f.passed + q) l (drop q (bits ++ more))) is
    ∙ none-unmatched f.rules f.columns sound (f.passed + q) last (drop q (bits ++ more))
    (omega arith)
    (match-later f.rules q bits more (omega arith) ∙ far q below)

pub shut-none : (f : Finding) (last : Last) (count : ℕ) (bits : List Bool) → f.last ≡ Some last
    → f.passed + count ≤ last.end
    → ((more : List Bool) (q : ℕ) → q < count
    → IfSome f.columns (λ c. is_open f.rules c (f.passed + q) last (drop q (bits ++ more)) ≡ false))
    → NoneIn f count bits
shut-none f last count bits is within shut = λ sound more q below.
    ap (λ l. place_here f.rules f.columns sound (f.passed + q) l (drop q (bits ++ more))) is
    ∙ none-shut f.rules f.columns sound (f.passed + q) last (drop q (bits ++ more)) (omega arith)
    (shut more q below)

pub inside-of : (f : Finding) (last : Last) → f.last ≡ Some last → f.passed < last.end
    → is_inside f.passed f.last ≡ true
inside-of f last is within =
    let test : is_inside f.passed (Some last) ≡ true = grind (arith, nat_tests) in
    ap (is_inside f.passed) is ∙ test

pub not-false : (b : Bool) → not b ≡ false → b ≡ true
not-false true e = refl
not-false false e = absurd (cc)

pub off-shut : (columns : Option Columns) (P : Columns → Type 0) → columns ≡ None → IfSome columns P
off-shut columns P off = subst (λ (o : Option Columns). IfSome o P) (sym off) tt

pub on-shut : (columns : Option Columns) (c : Columns) (P : Columns → Type 0) → columns ≡ Some c
    → P c
    → IfSome columns P
on-shut columns c P on p = subst (λ (o : Option Columns). IfSome o P) (sym on) p

pub early-shut : (rules : Rules) (columns : Columns) (at : ℕ) (last : Last) (bits : List Bool)
    → last.sound ≡ true
    → at + reach columns < last.end → is_open rules columns at last bits ≡ false
early-shut rules columns at last bits sound early =
    let test : nat_le last.end (at + reach columns) ≡ false = grind (arith, nat_tests) in
    λ i. not (sound i) || (test i && is_none (match_of rules (drop (last.end - at) bits)))

and-false : (b : Bool) → (b && false) ≡ false
and-false true = refl
and-false false = refl

pub followed-shut : (rules : Rules) (columns : Columns) (at : ℕ) (last : Last) (bits : List Bool)
    (inverted : Bool)
    → last.sound ≡ true → match_of rules (drop (last.end - at) bits) ≡ Some inverted
    → is_open rules columns at last bits ≡ false
followed-shut rules columns at last bits inverted sound match =
    (λ i. not (sound i) || (nat_le last.end (at + reach columns) && is_none (match i)))
    ∙ and-false (nat_le last.end (at + reach columns))

pub inside-finds : (f : Finding) (bits : List Bool) (inverted : Bool) → Fits f.rules f.columns
    → IsOpen f bits
    → is_inside f.passed f.last ≡ true → 32 + f.rules.block_bits ≤ length bits
    → match_of f.rules bits ≡ Some inverted → Finds f bits (found_at f.passed false inverted bits)
inside-finds f bits inverted fits counts within room match =
    finds f bits (found_at f.passed false inverted bits) fits
    (subst (λ (n : ℕ). n ≤ length bits) (sym (inside-bits within)) room)
    (place_here-inside f.rules f.columns always f.passed f.last bits within
    ∙ (λ i. place_inside f.rules (counts.2 i) always f.passed (counts.3 i) bits)
    ∙ inside-room f.rules counts.0 always f.passed counts.1 bits room
    ∙ ap (λ c. cond c (sound_place always f.passed bits (match_of f.rules bits)) None) counts.4
    ∙ ap (sound_place always f.passed bits) match)
  where
    inside-bits : is_inside f.passed f.last ≡ true
        → room_at f.rules f.passed f.last ≡ 32 + f.rules.block_bits
    inside-bits e = ap
        (λ c. cond c (32 + f.rules.block_bits) (room_of f.rules (ends_at f.passed f.last))) e

-- ---- not inside

-- what decides outside of codeblocks, after what ends right before
pub record Outside (f : Finding) (bits : List Bool) (before : Option Before) : Type 0 where
  pub out : is_inside f.passed f.last ≡ false
  pub ends : ends_at f.passed f.last ≡ before
  pub room : room_of f.rules before ≤ length bits
  pub whole : 32 + f.rules.block_bits ≤ length bits

pub outside-room : (f : Finding) (bits : List Bool) (before : Option Before) → Outside f bits before
    → room_at f.rules f.passed f.last ≤ length bits
outside-room f bits before o =
    subst (λ (n : ℕ). n ≤ length bits) (sym (ap (λ c. cond c (32 + f.rules.block_bits)
    (room_of f.rules (ends_at f.passed f.last))) o.out ∙ ap (room_of f.rules) o.ends)) o.room

pub outside-here : (f : Finding) (sound : Soundness) (bits : List Bool) (before : Option Before)
    → Outside f bits before
    → place_here f.rules f.columns sound f.passed f.last bits
    ≡ place_outside f.rules f.columns bits
    (place_by f.rules f.passed before bits (place_polarity f.rules before bits))
outside-here f sound bits before o =
    place_here-outside f.rules f.columns sound f.passed f.last bits o.out
    ∙ ap (λ b. place_outside f.rules f.columns bits (place_at f.rules f.passed b bits)) o.ends
    ∙ ap (place_outside f.rules f.columns bits) (place_at-room f.rules f.passed before bits o.whole)

matched-outside : (rules : Rules) (columns : Option Columns) (at : ℕ) (inverted : Bool)
    (bits : List Bool)
    → place_outside rules columns bits (Some (found_at at false inverted bits))
    ≡ Some (found_at at false inverted bits)
matched-outside rules None at inverted bits = refl
matched-outside rules (Some columns) at inverted bits = refl

pub outside-finds : (f : Finding) (bits : List Bool) (before : Option Before) (inverted : Bool)
    → Fits f.rules f.columns → Outside f bits before
    → place_polarity f.rules before bits ≡ Some inverted
    → Finds f bits (found_at f.passed false inverted bits)
outside-finds f bits before inverted fits o polarity =
    finds f bits (found_at f.passed false inverted bits) fits (outside-room f bits before o)
    (outside-here f always bits before o
    ∙ ap (λ p. place_outside f.rules f.columns bits (place_by f.rules f.passed before bits p))
    polarity
    ∙ matched-outside f.rules f.columns f.passed inverted bits)

-- where none matches, and nothing may be bridged
pub outside-nothing : (f : Finding) (bits : List Bool) (before : Option Before)
    → Fits f.rules f.columns
    → Outside f bits before
    → place_outside f.rules f.columns bits (place_by f.rules f.passed before bits
    (place_polarity f.rules before bits)) ≡ None
    → NoneIn f 1 bits
outside-nothing f bits before fits o none =
    one-none f bits fits (outside-room f bits before o) (λ sound. outside-here f sound bits before o
    ∙ none)

-- outside, where no marker matches
pub far-none : (f : Finding) (count : ℕ) (bits : List Bool) → f.last ≡ None
    → count + 31 ≤ length bits
    → ((q : ℕ) → q < count → match_of f.rules (drop q bits) ≡ None) → NoneIn f count bits
far-none f count bits is room far = λ sound more q below.
    ap (λ l. place_here f.rules f.columns sound (f.passed + q) l (drop q (bits ++ more))) is
    ∙ none-outside f.rules f.columns sound (f.passed + q) None (drop q (bits ++ more)) tt
    (ap (verified f.rules (drop q (bits ++ more))) (match-later f.rules q bits more (omega arith)
    ∙ far q below))

pub verified-is : (rules : Rules) (bits : List Bool) (inverted c : Bool)
    → match_of rules bits ≡ Some inverted
    → are_verified rules inverted rules.verify bits ≡ c
    → place_polarity rules None bits ≡ cond c (Some inverted) None
verified-is rules bits inverted c match is =
    ap (verified rules bits) match ∙ ap (λ b. cond b (Some inverted) None) is

-- right behind a codeblock
pub behind-outside : (f : Finding) (last : Last) (bits : List Bool) → f.last ≡ Some last
    → last.end ≡ f.passed
    → 32 + f.rules.block_bits ≤ length bits → Outside f bits (Some last.before)
behind-outside f last bits is end room =
    let test : (f.passed == last.end) ≡ true = grind (arith, nat_tests) in
    let out : is_inside f.passed (Some last) ≡ false = grind (arith, nat_tests) in
    record {
      out = ap (is_inside f.passed) is ∙ out;
      ends = ap (ends_at f.passed) is ∙ ap (λ c. cond c (Some last.before) None) test;
      room = room;
      whole = room;
    }

pub free-outside : (f : Finding) (bits : List Bool) → f.last ≡ None
    → settled_by f.rules.verify f.rules.block_bits ≤ length bits → Outside f bits None
free-outside f bits is room =
    let least = settled-room f.rules in
    record {
      out = ap (is_inside f.passed) is;
      ends = ap (ends_at f.passed) is;
      room = room;
      whole = omega arith;
    }

pub bridged-finds : (f : Finding) (bits : List Bool) (before : Before) → Fits f.rules f.columns
    → Outside f bits (Some before) → match_of f.rules bits ≡ None → before.bridged < f.rules.fly
    → IfSome f.columns (λ c. true ≡ may_bridge f.rules c before.inverted bits)
    → Finds f bits (found_at f.passed true before.inverted bits)
bridged-finds f bits before fits o match few may =
    let test : nat_lt before.bridged f.rules.fly ≡ true = grind (arith, nat_tests) in
    finds f bits (found_at f.passed true before.inverted bits) fits
    (outside-room f bits (Some before) o)
    (outside-here f always bits (Some before) o
    ∙ ap (λ p. place_outside f.rules f.columns bits
    (place_by f.rules f.passed (Some before) bits p)) match
    ∙ ap (λ c. place_outside f.rules f.columns bits
    (cond c (Some (found_at f.passed true before.inverted bits))
    None)) test
    ∙ go f.columns may)
  where
    go : (columns : Option Columns)
        → IfSome columns (λ c. true ≡ may_bridge f.rules c before.inverted bits)
        → place_outside f.rules columns bits (Some (found_at f.passed true before.inverted bits))
        ≡ Some (found_at f.passed true before.inverted bits)
    go None may = refl
    go (Some columns) may =
        ap (λ c. cond (true && not c) None (Some (found_at f.passed true before.inverted bits)))
        (sym may)

pub fly-none : (f : Finding) (bits : List Bool) (before : Before) → Fits f.rules f.columns
    → Outside f bits (Some before) → match_of f.rules bits ≡ None → f.rules.fly ≤ before.bridged
    → NoneIn f 1 bits
fly-none f bits before fits o match many =
    let test : nat_lt before.bridged f.rules.fly ≡ false = grind (arith, nat_tests) in
    outside-nothing f bits (Some before) fits o
    (ap (λ p. place_outside f.rules f.columns bits (place_by f.rules f.passed (Some before) bits p))
    match
    ∙ ap (λ c. place_outside f.rules f.columns bits
    (cond c (Some (found_at f.passed true before.inverted bits))
    None)) test
    ∙ outside-none f.rules f.columns bits)

pub unbridged-none : (f : Finding) (bits : List Bool) (before : Before) (columns : Columns)
    → Fits f.rules f.columns
    → Outside f bits (Some before) → match_of f.rules bits ≡ None → f.columns ≡ Some columns
    → may_bridge f.rules columns before.inverted bits ≡ false → NoneIn f 1 bits
unbridged-none f bits before columns fits o match on may =
    outside-nothing f bits (Some before) fits o
    (ap (λ p. place_outside f.rules f.columns bits (place_by f.rules f.passed (Some before) bits p))
    match
    ∙ go (nat_lt before.bridged f.rules.fly))
  where
    go : (c : Bool) → place_outside f.rules f.columns bits
        (cond c (Some (found_at f.passed true before.inverted bits)) None) ≡ None
    go false = outside-none f.rules f.columns bits
    go true =
        ap (λ o. place_outside f.rules o bits (Some (found_at f.passed true before.inverted bits)))
        on
        ∙ ap (λ c. cond (true && not c) None (Some (found_at f.passed true before.inverted bits)))
        may

pub bridge-none : (f : Finding) (bits : List Bool) (before : Before) (may : Bool)
    → Fits f.rules f.columns
    → Outside f bits (Some before) → match_of f.rules bits ≡ None → may ≡ false
    → IfNone f.columns (may ≡ true)
    → IfSome f.columns (λ c. may ≡ may_bridge f.rules c before.inverted bits) → NoneIn f 1 bits
bridge-none f bits before may fits o match never = go f.columns refl
  where
    go : (columns : Option Columns) → f.columns ≡ columns → IfNone columns (may ≡ true)
        → IfSome columns (λ c. may ≡ may_bridge f.rules c before.inverted bits) → NoneIn f 1 bits
    go None is off on = absurd (cc)
    go (Some columns) is off on = unbridged-none f bits before columns fits o match is (sym on
        ∙ never)

-- where no codeblock ends right before, and no place is verified
pub unverified-none : (f : Finding) (bits : List Bool) → Fits f.rules f.columns
    → Outside f bits None
    → place_polarity f.rules None bits ≡ None → NoneIn f 1 bits
unverified-none f bits fits o polarity =
    outside-nothing f bits None fits o
    (ap (λ p. place_outside f.rules f.columns bits (place_by f.rules f.passed None bits p)) polarity
    ∙ outside-none f.rules f.columns bits)

-- ---- what is taken

-- a bridged place stands right behind a codeblock, and not too many in a row are
matched-place : (at : ℕ) (inverted : Bool) (bits : List Bool) (place : Found)
    → Some (found_at at false inverted bits) ≡ Some place → place.bridged ≡ true → ⊥
matched-place at inverted bits place e bridged =
    let is : found_at at false inverted bits ≡ place = cc in
    let clash : false ≡ true = ap (λ (g : Found). g.bridged) is ∙ bridged in
    absurd (cc)

by-few : (rules : Rules) (at : ℕ) (before : Option Before) (bits : List Bool)
    (polarity : Option Bool) (place : Found)
    → place_by rules at before bits polarity ≡ Some place → place.bridged ≡ true
    → IfSome before (λ b. b.bridged < rules.fly)
by-few rules at before bits (Some inverted) place e bridged =
    absurd (matched-place at inverted bits place e bridged)
by-few rules at None bits None place e bridged = tt
by-few rules at (Some before) bits None place e bridged = go
    (cases_Bool (nat_lt before.bridged rules.fly))
  where
    go : (nat_lt before.bridged rules.fly ≡ true) ⊎ (nat_lt before.bridged rules.fly ≡ false)
        → before.bridged < rules.fly
    go (inl less) = grind (arith, nat_tests)
    go (inr many) =
        let clash : None ≡ Some place =
        ap (λ c. cond c (Some (found_at at true before.inverted bits)) None) (sym many)
        ∙ e in absurd (cc)

inside-few : (rules : Rules) (columns : Option Columns) (sound : Soundness) (at : ℕ)
    (last : Option Last)
    (bits : List Bool) (place : Found) → place_inside rules columns sound at last bits ≡ Some place
    → place.bridged ≡ true → ⊥
inside-few rules None sound at last bits place e bridged = absurd (cc)
inside-few rules (Some columns) sound at None bits place e bridged = absurd (cc)
inside-few rules (Some columns) sound at (Some last) bits place e bridged =
    go (nat_le (32 + rules.block_bits) (length bits) && is_open rules columns at last bits)
    (match_of rules bits) e
  where
    is : (inverted c : Bool) → cond c (Some (found_at at false inverted bits)) None ≡ Some place → ⊥
    is inverted true e = matched-place at inverted bits place e bridged
    is inverted false e = absurd (cc)

    go : (c : Bool) (polarity : Option Bool)
        → cond c (sound_place sound at bits polarity) None ≡ Some place → ⊥
    go false polarity e = absurd (cc)
    go true None e = absurd (cc)
    go true (Some inverted) e = is inverted (sound at inverted) e

pub bridged-few : (f : Finding) (bits : List Bool) (place : Found) → Finds f bits place
    → place.bridged ≡ true
    → IfSome (ends_at f.passed f.last) (λ b. b.bridged < f.rules.fly)
bridged-few f bits place found bridged = go (cases_Bool (is_inside f.passed f.last))
  where
    e : place_here f.rules f.columns always f.passed f.last (bits ++ []) ≡ Some place
    e = found.here []

    go : (is_inside f.passed f.last ≡ true) ⊎ (is_inside f.passed f.last ≡ false)
        → IfSome (ends_at f.passed f.last) (λ b. b.bridged < f.rules.fly)
    go (inl in_it) =
        absurd (inside-few f.rules f.columns always f.passed f.last (bits ++ []) place
        (sym (place_here-inside f.rules f.columns always f.passed f.last (bits ++ []) in_it)
        ∙ e) bridged)
    go (inr out) =
        by-few f.rules f.passed (ends_at f.passed f.last) (bits ++ [])
        (place_polarity f.rules (ends_at f.passed f.last) (bits ++ [])) place
        (sym (place_at-room f.rules f.passed (ends_at f.passed f.last) (bits ++ [])
        (place_here-room f.rules f.columns always f.passed f.last (bits ++ []) place e))
        ∙ outside-is f.rules f.columns (bits ++ [])
        (place_at f.rules f.passed (ends_at f.passed f.last) (bits ++ []))
        place (sym (place_here-outside f.rules f.columns always f.passed f.last (bits ++ []) out)
        ∙ e)) bridged

-- inside a codeblock nothing stands without columns, and else a place whose own is sound
pub inside-says : (f : Finding) (bits more : List Bool) (place : Found) (says : Soundness)
    (sound : Bool)
    → Finds f bits place → Tells f says place sound → is_inside f.passed f.last ≡ true
    → place_here f.rules f.columns says f.passed f.last (bits ++ more)
    ≡ cond sound (Some place) None
inside-says f bits more place says sound found tells in_it =
    by f.columns refl tells
    (place-answered f.rules f.columns says f.passed f.last (bits ++ more) place (found.here more))
  where
    by : (columns : Option Columns) → f.columns ≡ columns
        → IfSome columns (λ _. sound ≡ says place.place place.inverted)
        → ((is_inside f.passed f.last ≡ false)
        × (place_here f.rules f.columns says f.passed f.last (bits ++ more) ≡ Some place))
        ⊎ ((is_inside f.passed f.last ≡ true)
        × (place_here f.rules f.columns says f.passed f.last (bits ++ more)
        ≡ cond (says f.passed place.inverted) (Some place) None))
        → place_here f.rules f.columns says f.passed f.last (bits ++ more)
        ≡ cond sound (Some place) None
    by columns on tells (inl out) = let clash : true ≡ false = sym in_it ∙ out.0 in absurd (cc)
    by None on tells (inr in_it') =
        let clash : None ≡ Some place =
        ap (λ o. place_inside f.rules o always f.passed f.last (bits ++ more)) (sym on)
        ∙ sym (place_here-inside f.rules f.columns always f.passed f.last (bits ++ more) in_it)
        ∙ found.here more in absurd (cc)
    by (Some columns) on tells (inr in_it') =
        in_it'.1
        ∙ ap (λ n. cond (says n place.inverted) (Some place) None) (sym found.at)
        ∙ ap (λ c. cond c (Some place) None) (sym tells)

pub dropped-left : (f f' : Finding) (bits more : List Bool) (place : Found) (says : Soundness)
    (sound : Bool)
    → Finds f bits place → Tells f says place sound → is_inside f.passed f.last ≡ true
    → sound ≡ false
    → f'.rules ≡ f.rules → f'.columns ≡ f.columns → f'.passed ≡ f.passed + 1
    → f'.last ≡ kept_at f'.passed f.last
    → places_left f says (bits ++ more) ≡ places_left f' says (drop 1 bits ++ more)
dropped-left f f' bits more place says sound found tells in_it unsound rules columns passed last =
    let room = found.room in
    none-same f f' 1 bits says more (omega arith)
    (λ q below.
    let first : q ≡ 0 = omega arith in
    let at : f.passed + 0 ≡ f.passed = omega arith in
    ap (λ n. place_here f.rules f.columns says (f.passed + n) f.last (drop n (bits ++ more))) first
    ∙ ap (λ n. place_here f.rules f.columns says n f.last (bits ++ more)) at
    ∙ inside-says f bits more place says sound found tells in_it
    ∙ ap (λ c. cond c (Some place) None) unsound)
    rules columns passed last

-- without columns it does not matter whether the codeblock before is sound
off-last : (rules : Rules) (sound : Soundness) (at : ℕ) (last other : Last) (bits : List Bool)
    → at ≤ last.end
    → other.end ≡ last.end → other.before ≡ last.before
    → places_after rules None sound at (Some last) bits
    ≡ places_after rules None sound at (Some other) bits
off-last rules sound at last other bits ahead end before =
    places_after-off rules sound at (last.end - at) (Some last.before) (Some last) bits
    (inl (omega arith, refl))
    ∙ sym (places_after-off rules sound at (last.end - at) (Some last.before) (Some other) bits
    (inl (omega arith, ap (λ (b : Before). Some b) (sym before))))

-- the place that was taken, as the one before the next bits
abbrev pub last_taken : Finding → Found → Bool → Last
last_taken f place sound = record {
  end = f.passed + 32 + f.rules.block_bits;
  before = before_next (ends_at f.passed f.last) place;
  sound = sound;
}

pub taken-here : (f : Finding) (bits more : List Bool) (place : Found) (says : Soundness)
    (sound : Bool)
    → Finds f bits place → Tells f says place sound
    → ((is_inside f.passed f.last ≡ true) × (sound ≡ true)) ⊎ (is_inside f.passed f.last ≡ false)
    → place_here f.rules f.columns says f.passed f.last (bits ++ more) ≡ Some place
taken-here f bits more place says sound found tells (inl in_it) =
    inside-says f bits more place says sound found tells in_it.0
    ∙ ap (λ c. cond c (Some place) None) in_it.1
taken-here f bits more place says sound found tells (inr out) =
    place_here-outside f.rules f.columns says f.passed f.last (bits ++ more) out
    ∙ sym (place_here-outside f.rules f.columns always f.passed f.last (bits ++ more) out)
    ∙ found.here more

pub taken-left : (f f' : Finding) (bits more : List Bool) (place : Found) (says : Soundness)
    (sound : Bool)
    → Finds f bits place → Tells f says place sound
    → ((is_inside f.passed f.last ≡ true) × (sound ≡ true)) ⊎ (is_inside f.passed f.last ≡ false)
    → f'.rules ≡ f.rules → f'.columns ≡ f.columns → f'.passed ≡ f.passed + 1
    → f'.last ≡ kept_at f'.passed (Some (last_taken f place sound))
    → places_left f says (bits ++ more) ≡ place ∷ places_left f' says (drop 1 bits ++ more)
taken-left f f' [] more place says sound found tells so rules columns passed last =
    let room = found.room in absurd (omega arith)
taken-left f f' (b ∷ bits) more place says sound found tells so rules columns passed last =
    let kept : kept_at (f.passed + 1) (Some (last_taken f place sound)) ≡ f'.last =
    ap (λ n. kept_at n (Some (last_taken f place sound))) (sym passed) ∙ sym last in
    places_after-one f.rules f.columns says f.passed f.last b (bits ++ more) place
    (taken-here f (b ∷ bits) more place says sound found tells so)
    ∙ ap (λ fs. place ∷ fs) (told f.columns refl tells
    ∙ places_after-kept f.rules f.columns says (f.passed + 1) (Some (last_taken f place sound))
    (bits ++ more)
    ∙ (λ i. places_after (sym rules i) (sym columns i) says (sym passed i) (kept i) (bits ++ more)))
  where
    told : (columns : Option Columns) → f.columns ≡ columns
        → IfSome columns (λ _. sound ≡ says place.place place.inverted)
        → places_after f.rules f.columns says (f.passed + 1)
        (Some (last_at f.rules says f.passed f.last place))
        (bits ++ more)
        ≡ places_after f.rules f.columns says (f.passed + 1) (Some (last_taken f place sound))
        (bits ++ more)
    told None off tells =
        ap (λ o. places_after f.rules o says (f.passed + 1)
        (Some (last_at f.rules says f.passed f.last place))
        (bits ++ more)) off
        ∙ off-last f.rules says (f.passed + 1) (last_at f.rules says f.passed f.last place)
        (last_taken f place sound)
        (bits ++ more) (omega arith) refl refl
        ∙ ap (λ o. places_after f.rules o says (f.passed + 1) (Some (last_taken f place sound))
        (bits ++ more))
        (sym off)
    told (Some columns) on tells =
        let is : says f.passed place.inverted ≡ sound =
        ap (λ n. says n place.inverted) (sym found.at) ∙ sym tells in
        ap (λ c. places_after f.rules f.columns says (f.passed + 1) (Some (last_taken f place c))
        (bits ++ more)) is
