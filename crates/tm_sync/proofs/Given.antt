-- What a search stands for, as it goes on.
use Rattle.std.proofs.Common.{◌≡◌, ℕ, zero, suc, ◌+◌, ◌-◌, ◌*◌, ◌/◌, ◌%◌, ◌^◌, ◌<◌, ◌≤◌, Bool, true, false, cond, ◌==◌, ◌&&◌, nat_le, List, [], ◌∷◌, ◌++◌, length, take, drop, refl, sym, ap, ◌∙◌, subst, arith, Option, Some, None, IsSome, IfSome, IfNone, bit_or, unwrap_or, append_assoc, length-append, length-drop, take-append-drop, ◌⊎◌, inl, inr}
use mir.Val.{bool_byte}
use Rattle.std.specs.Option.{option_map, option_map_or, is_some}
use Rattle.std.proofs.lemmas.List.{length-take-le, append-nil, nil_from_length, take_at, drop_at, drop-drop}
use Rattle.std.proofs.lemmas.Nat.{div-mul-add, div-add-mod', mod_below}
use Rattle.std.proofs.lemmas.Bool.{cases_lt}
use Rattle.std.proofs.lemmas.Bool.Decides.{nat_tests}
use Rattle.tm_base.specs.Bits.{number_of}
use Rattle.tm_sync.specs.declared.found.Found.{Found}
use Rattle.tm_sync.specs.declared.found.Before.{Before}
use Rattle.tm_sync.specs.declared.found.Awaited.{Awaited}
use Rattle.tm_sync.specs.Places.{Rules, before_next, wrong_bits, match_of, matches_in, are_verified, verified, place_polarity, verify_bits, found_at, place_at, place_by, places, places_from}
use Rattle.tm_sync.specs.Searching.{Counts, Searching, SearchStandsFor, Remembers, Recalls, IsRun, IsRecent, awaited_at, begun_of, first_place, from_of, place_ahead, inside_ahead, inside_by, inside_of, is_pending, is_right_after, waiting_of, end_of, before_past}
use Rattle.tm_sync.proofs.Numbers.{value_from, number-value}
use Rattle.tm_sync.proofs.Sliding.{byte-number, received-push}
use Rattle.tm_sync.proofs.Steps.{places_from-short, places_from-hit, wrong_bits-append, match_of-append, matches_in-is, are_verified-more, place_polarity-far, place_at-room}
use Rattle.tm_sync.proofs.Longer.{Seen, none, some, seen, place_by-place}
use Rattle.tm_sync.proofs.FirstPlaces.{here, hit, first_place-nil, first_place-short, first_place-stays, first_place-right, first_place-settles, first_place-unmatched, first_place-waits, first_place-start, first_place-room, deciding-marker, places_from-ahead, places_from-none, places_from-none_ahead, places_from-whole, places_from-unfinished, not-bridged-here, after-matched}
use Rattle.tm_sync.proofs.Recent.{recent-inside, recent-from, last-32, received-last}
use Rattle.tm_sync.proofs.Looks.{none-or}
use Rattle.tm_sync.proofs.Ends.{end_after, end_after-is, end_after-append, end-there, first-stays, places-after}

-- ---- the same with the bits cut at the end of the last codeblock found
pub record Parts (s : Searching) (room : List ℕ) (bits : List Bool) (found : List Found) : Type 0 where
  pub prefix : List Bool
  pub rest : List Bool
  pub parts : bits ≡ prefix ++ rest
  pub found_first : take (length found) (places s.rules bits) ≡ found
  pub ends : end_of s.rules found ≡ length prefix
  pub start_is : s.start ≡ length prefix
  pub pushed_is : s.pushed ≡ length bits
  pub before_is : s.before ≡ before_past None found
  pub received_is : s.received ≡ value_from 0 bits % 2 ^ 32
  pub awaited_is : s.awaited ≡ option_map (awaited_at s.before) (first_place s.rules (length prefix) s.before rest)
  pub after_is : IfSome s.awaited (λ m. m.found.place + 32 + s.after ≡ s.pushed)
  pub fresh : IfNone s.awaited (s.after ≡ 0)
  pub run : IsRun s bits s.awaited
  pub sized : length room ≡ verify_bits s.rules
  pub recent : IsRecent room bits (from_of s s.awaited)

-- where the marker of a place ends
abbrev Ends : Searching → Option Awaited → Type 0
Ends s o = IfSome o (λ m. m.found.place + 32 + s.after ≡ s.pushed)

abbrev Fresh : Searching → Option Awaited → Type 0
Fresh s o = IfNone o (s.after ≡ 0)

drop-prefix : (prefix rest : List Bool) → drop (length prefix) (prefix ++ rest) ≡ rest
drop-prefix [] rest = refl
drop-prefix (b ∷ prefix) rest = drop-prefix prefix rest

pub parts_of : (s : Searching) (room : List ℕ) (bits : List Bool) (found : List Found)
    → SearchStandsFor s room bits found → Parts s room bits found
parts_of s room bits found h =
    let end = end_of s.rules found in
    let there = end-there s.rules bits found h.found_first in
    let long : length (take end bits) ≡ end = length-take-le end bits there in
    let o = place_ahead s.rules bits found in
    let first : o ≡ first_place s.rules (length (take end bits)) s.before (drop end bits) =
    λ i. first_place s.rules (sym long i) (sym (ap (λ (v : Searching). v.before) h.search) i) (drop end bits) in
    let awaited : s.awaited ≡ option_map (awaited_at (before_past None found)) o =
    ap (λ (v : Searching). v.awaited) h.search in
    let after : s.after ≡ unwrap_or (option_map (λ f. length bits - (f.place + 32)) o) 0 =
    ap (λ (v : Searching). v.after) h.search in
    let pushed : s.pushed ≡ length bits = ap (λ (v : Searching). v.pushed) h.search in
    let before : s.before ≡ before_past None found = ap (λ (v : Searching). v.before) h.search in
    record {
      prefix = take end bits;
      rest = drop end bits;
      parts = sym (take-append-drop end bits);
      found_first = h.found_first;
      ends = sym long;
      start_is = ap (λ (v : Searching). v.start) h.search ∙ sym long;
      pushed_is = pushed;
      before_is = before;
      received_is = ap (λ (v : Searching). v.received) h.search ∙ ap (λ n. n % 2 ^ 32) (number-value bits);
      awaited_is = awaited ∙ (λ i. option_map (awaited_at (sym before i)) (first i));
      after_is = subst (Ends s) (sym awaited) (ends-at o refl after pushed there);
      fresh = subst (Fresh s) (sym awaited) (fresh-at o after);
      run = h.run;
      sized = h.sized;
      recent = h.recent;
    }
  where
    ends-at : (o : Option Found) → place_ahead s.rules bits found ≡ o
        → s.after ≡ unwrap_or (option_map (λ f. length bits - (f.place + 32)) o) 0 → s.pushed ≡ length bits
        → end_of s.rules found ≤ length bits → Ends s (option_map (awaited_at (before_past None found)) o)
    ends-at None is after pushed there = tt
    ends-at (Some f) is after pushed there =
        let room = first_place-room s.rules (end_of s.rules found) (before_past None found)
        (drop (end_of s.rules found) bits) f is in
        let long = length-drop (end_of s.rules found) bits in
        omega arith

    fresh-at : (o : Option Found) → s.after ≡ unwrap_or (option_map (λ f. length bits - (f.place + 32)) o) 0
        → Fresh s (option_map (awaited_at (before_past None found)) o)
    fresh-at None after = after
    fresh-at (Some f) after = tt

pub stands_of : (s : Searching) (room : List ℕ) (bits : List Bool) (found : List Found) → Parts s room bits found
    → SearchStandsFor s room bits found
stands_of s room bits found h =
    let end : end_of s.rules found ≡ length h.prefix = h.ends in
    let rest : drop (end_of s.rules found) bits ≡ h.rest = (λ i. drop (end i) (h.parts i))
    ∙ drop-prefix h.prefix h.rest in
    let ahead : place_ahead s.rules bits found ≡ first_place s.rules (length h.prefix) s.before h.rest =
    λ i. first_place s.rules (end i) (sym h.before_is i) (rest i) in
    let awaited : s.awaited ≡ option_map (awaited_at (before_past None found)) (place_ahead s.rules bits found) =
    h.awaited_is ∙ (λ i. option_map (awaited_at (h.before_is i)) (sym ahead i)) in
    let after : s.after ≡ unwrap_or (inside_ahead s.rules bits found) 0 =
    after-at (place_ahead s.rules bits found) (subst (Ends s) awaited h.after_is)
    (subst (Fresh s) awaited h.fresh) h.pushed_is in
    record {
      search = λ i. record {
        rules = s.rules;
        pushed = h.pushed_is i;
        received = (h.received_is ∙ ap (λ n. n % 2 ^ 32) (sym (number-value bits))) i;
        start = (h.start_is ∙ sym end) i;
        before = h.before_is i;
        awaited = awaited i;
        after = after i;
      };
      found_first = h.found_first;
      run = h.run;
      sized = h.sized;
      recent = h.recent;
    }
  where
    after-at : (o : Option Found) → Ends s (option_map (awaited_at (before_past None found)) o)
        → Fresh s (option_map (awaited_at (before_past None found)) o) → s.pushed ≡ length bits
        → s.after ≡ unwrap_or (option_map (λ f. length bits - (f.place + 32)) o) 0
    after-at None ends fresh pushed = fresh
    after-at (Some f) ends fresh pushed = omega arith

-- ---- a bit is given
pub record Grows (s s' : Searching) (b : Bool) : Type 0 where
  pub rules : s'.rules ≡ s.rules
  pub received : s'.received ≡ bit_or (s.received * 2 % 2 ^ 32) (bool_byte b)
  pub pushed : s'.pushed ≡ s.pushed + 1
  pub start : s'.start ≡ s.start
  pub before : s'.before ≡ s.before

-- Bits are given, where the place ahead is this one, or there is none, and the search awaits it.
-- What it is to keep of a place it says there.
gone_on : (s s' : Searching) (room room' : List ℕ) (more bits : List Bool) (found : List Found)
    (h : Parts s room bits found) → s'.rules ≡ s.rules → s'.pushed ≡ s.pushed + length more
    → s'.start ≡ s.start → s'.before ≡ s.before → s'.received ≡ value_from 0 (bits ++ more) % 2 ^ 32
    → length room' ≡ length room
    → (o : Option Found) → first_place s.rules (length h.prefix) s.before (h.rest ++ more) ≡ o
    → s'.awaited ≡ option_map (awaited_at s.before) o
    → IfSome o (λ f. f.place + 32 + s'.after ≡ s'.pushed) → IfNone o (s'.after ≡ 0)
    → IsRun s' (bits ++ more) (option_map (awaited_at s.before) o)
    → IsRecent room' (bits ++ more) (from_of s' (option_map (awaited_at s.before) o))
    → SearchStandsFor s' room' (bits ++ more) found
gone_on s s' room room' more bits found h rules pushed start before received size o ahead awaited after fresh run
    recent =
    stands_of s' room' (bits ++ more) found record {
      prefix = h.prefix;
      rest = h.rest ++ more;
      parts = ap (λ l. l ++ more) h.parts ∙ append_assoc h.prefix h.rest more;
      found_first = ap (λ r. take (length found) (places r (bits ++ more))) rules
          ∙ first-stays s.rules bits more found h.found_first;
      ends = ap (λ r. end_of r found) rules ∙ h.ends;
      start_is = start ∙ h.start_is;
      pushed_is = pushed ∙ ap (λ n. n + length more) h.pushed_is ∙ sym (length-append bits more);
      before_is = before ∙ h.before_is;
      received_is = received;
      awaited_is = awaited ∙ ap (option_map (awaited_at s.before)) (sym ahead)
          ∙ (λ i. option_map (awaited_at (sym before i))
          (first_place (sym rules i) (length h.prefix) (sym before i) (h.rest ++ more)));
      after_is = subst (Ends s') (sym awaited) (ends-at o after);
      fresh = subst (Fresh s') (sym awaited) (fresh-at o fresh);
      run = subst (IsRun s' (bits ++ more)) (sym awaited) run;
      sized = size ∙ h.sized ∙ ap verify_bits (sym rules);
      recent = subst (λ (o : Option Awaited). IsRecent room' (bits ++ more) (from_of s' o)) (sym awaited) recent;
    }
  where
    ends-at : (o : Option Found) → IfSome o (λ f. f.place + 32 + s'.after ≡ s'.pushed)
        → Ends s' (option_map (awaited_at s.before) o)
    ends-at None after = tt
    ends-at (Some f) after = after

    fresh-at : (o : Option Found) → IfNone o (s'.after ≡ 0) → Fresh s' (option_map (awaited_at s.before) o)
    fresh-at None fresh = fresh
    fresh-at (Some f) fresh = tt

-- one bit is
grown : (s s' : Searching) (room room' : List ℕ) (b : Bool) (bits : List Bool) (found : List Found)
    (h : Parts s room bits found) → Grows s s' b → length room' ≡ length room
    → (o : Option Found) → first_place s.rules (length h.prefix) s.before (h.rest ++ b ∷ []) ≡ o
    → s'.awaited ≡ option_map (awaited_at s.before) o
    → IfSome o (λ f. f.place + 32 + s'.after ≡ s'.pushed) → IfNone o (s'.after ≡ 0)
    → IsRun s' (bits ++ b ∷ []) (option_map (awaited_at s.before) o)
    → IsRecent room' (bits ++ b ∷ []) (from_of s' (option_map (awaited_at s.before) o))
    → SearchStandsFor s' room' (bits ++ b ∷ []) found
grown s s' room room' b bits found h g =
    gone_on s s' room room' (b ∷ []) bits found h g.rules g.pushed g.start g.before
    (g.received ∙ received-push s.received b bits h.received_is)

-- what the fields were is what the search was
pub counts : (s old s' : Searching) (b : Bool) (byte : ℕ) → old ≡ s → byte ≡ bool_byte b → s.pushed < 2 ^ 63
    → s'.rules ≡ old.rules
    → s'.received ≡ bit_or (old.received * 2 % 2 ^ 32) byte → s'.pushed ≡ (old.pushed + 1) % 2 ^ 64
    → s'.start ≡ old.start
    → s'.before ≡ old.before
    → s'.awaited ≡ old.awaited → s'.after ≡ old.after → Counts s s' b
counts s old s' b byte same is few rules received pushed start before awaited after =
    let pushed_was : old.pushed ≡ s.pushed = ap (λ (v : Searching). v.pushed) same in
    record {
      rules = rules ∙ ap (λ (v : Searching). v.rules) same;
      received = received ∙ (λ i. bit_or ((same i).received * 2 % 2 ^ 32) ((is ∙ byte-number b) i));
      pushed = omega arith;
      start = start ∙ ap (λ (v : Searching). v.start) same;
      before = before ∙ ap (λ (v : Searching). v.before) same;
      awaited = awaited ∙ ap (λ (v : Searching). v.awaited) same;
      after = after ∙ ap (λ (v : Searching). v.after) same;
    }

-- a bit that was counted before is given
pub grows : (s old s' : Searching) (b : Bool) → Counts s old b → s'.rules ≡ old.rules → s'.received ≡ old.received
    → s'.pushed ≡ old.pushed → s'.start ≡ old.start
    → s'.before ≡ old.before → Grows s s' b
grows s old s' b c rules received pushed start before = record {
  rules = rules ∙ c.rules;
  received = received ∙ c.received ∙ ap (bit_or (s.received * 2 % 2 ^ 32)) (sym (byte-number b));
  pushed = pushed ∙ c.pushed;
  start = start ∙ c.start;
  before = before ∙ c.before;
}

-- the bits given, and those up to the last codeblock found
pub start-there : (s : Searching) (room : List ℕ) (bits : List Bool) (found : List Found)
    → SearchStandsFor s room bits found → (s.pushed ≡ length bits) × (s.start ≤ s.pushed)
start-there s room bits found stood =
    let h = parts_of s room bits found stood in
    (h.pushed_is, omega (arith, h.pushed_is, h.start_is, ap length h.parts, length-append h.prefix h.rest))

-- whether a whole codeblock follows the marker
pending-test : (s : Searching) (m : Awaited) (c : Bool) → s.awaited ≡ Some m → is_pending s ≡ c
    → nat_le s.rules.block_bits s.after ≡ c
pending-test s m c was is =
    sym (ap (λ (o : Option Awaited). option_map_or (λ count. nat_le s.rules.block_bits count)
    (option_map (λ _. s.after) o) false) was) ∙ is

not-whole : (s : Searching) (m : Awaited) → s.awaited ≡ Some m → is_pending s ≡ false → s.after < s.rules.block_bits
not-whole s m was free = let test = pending-test s m false was free in grind (arith, nat_tests)

whole : (s : Searching) (m : Awaited) → s.awaited ≡ Some m → is_pending s ≡ true → s.rules.block_bits ≤ s.after
whole s m was pending = let test = pending-test s m true was pending in grind (arith, nat_tests)

-- a place that is awaited is the first place
ahead-is : (s : Searching) (room : List ℕ) (bits : List Bool) (found : List Found) (h : Parts s room bits found)
    (m : Awaited) → s.awaited ≡ Some m
    → (f : Found) × (first_place s.rules (length h.prefix) s.before h.rest ≡ Some f) × (awaited_at s.before f ≡ m)
ahead-is s room bits found h m was = go (first_place s.rules (length h.prefix) s.before h.rest) refl
  where
    go : (o : Option Found) → first_place s.rules (length h.prefix) s.before h.rest ≡ o → (f : Found)
        × (first_place s.rules (length h.prefix) s.before h.rest ≡ Some f) × (awaited_at s.before f ≡ m)
    go None e =
        let no : None ≡ Some m = sym (h.awaited_is ∙ ap (option_map (awaited_at s.before)) e) ∙ was in absurd (cc)
    go (Some f) e =
        let is : Some (awaited_at s.before f) ≡ Some m = sym (h.awaited_is ∙ ap (option_map (awaited_at s.before)) e)
        ∙ was in (f, e, cc)

-- a place was found before, and its codeblock is not whole
pub push_inside : (s s' : Searching) (room room' : List ℕ) (b : Bool) (m : Awaited) → Grows s s' b
    → length room' ≡ length room → s.awaited ≡ Some m → is_pending s ≡ false
    → s'.awaited ≡ s.awaited → s'.after ≡ s.after + 1 → (bits : List Bool) (found : List Found)
    → SearchStandsFor s room bits found → SearchStandsFor s' room' (bits ++ b ∷ []) found
push_inside s s' room room' b m g size was free stays more bits found stood =
    let h = parts_of s room bits found stood in
    let a = ahead-is s room bits found h m was in
    let before : m.found.place + 32 + s.after ≡ s.pushed = subst (Ends s) was h.after_is in
    let place : a.0.place ≡ m.found.place = ap (λ (v : Awaited). v.found.place) a.2 in
    let grows = g.pushed in
    let now : a.0.place + 32 + s'.after ≡ s'.pushed = omega arith in
    let fewer = not-whole s m was free in
    let rules : s'.rules.block_bits ≡ s.rules.block_bits = ap (λ (r : Rules). r.block_bits) g.rules in
    let few : s'.after ≤ s'.rules.block_bits = omega arith in
    let pushed : s'.pushed ≡ length (bits ++ b ∷ []) = g.pushed ∙ ap (λ n. n + 1) h.pushed_is
    ∙ sym (length-append bits (b ∷ [])) in
    grown s s' room room' b bits found h g size (Some a.0) (first_place-stays s.rules
    (length h.prefix) s.before h.rest (b ∷ []) a.0 a.1)
    (stays ∙ was ∙ ap Some (sym a.2)) now tt (inl few) (recent-inside s' (awaited_at s.before a.0) room'
    (bits ++ b ∷ []) few pushed)

-- all bits are of the codeblock after a place that was found before
pub push_run : (s s' : Searching) (room : List ℕ) (more : List Bool) (m : Awaited) → s.awaited ≡ Some m
    → s'.rules ≡ s.rules → s'.pushed ≡ s.pushed + length more → s'.start ≡ s.start
    → s'.before ≡ s.before → s'.awaited ≡ s.awaited → s'.after ≡ s.after + length more → s'.after ≤ s'.rules.block_bits
    → (bits : List Bool) (found : List Found) → s'.received ≡ number_of (bits ++ more) % 2 ^ 32
    → SearchStandsFor s room bits found → SearchStandsFor s' room (bits ++ more) found
push_run s s' room more m was rules pushed start before stays after few bits found received stood =
    let h = parts_of s room bits found stood in
    let a = ahead-is s room bits found h m was in
    let ends : m.found.place + 32 + s.after ≡ s.pushed = subst (Ends s) was h.after_is in
    let place : a.0.place ≡ m.found.place = ap (λ (v : Awaited). v.found.place) a.2 in
    let now : a.0.place + 32 + s'.after ≡ s'.pushed = omega arith in
    let count : s'.pushed ≡ length (bits ++ more) = pushed ∙ ap (λ n. n + length more) h.pushed_is
    ∙ sym (length-append bits more) in
    gone_on s s' room room more bits found h rules pushed start before
    (received ∙ ap (λ n. n % 2 ^ 32) (number-value (bits ++ more))) refl (Some a.0)
    (first_place-stays s.rules (length h.prefix) s.before h.rest more a.0 a.1)
    (stays ∙ was ∙ ap Some (sym a.2)) now tt (inl few)
    (recent-inside s' (awaited_at s.before a.0) room (bits ++ more) few count)

-- no place was found before
none-yet : (s : Searching) (room : List ℕ) (bits : List Bool) (found : List Found) (h : Parts s room bits found)
    → s.awaited ≡ None → first_place s.rules (length h.prefix) s.before h.rest ≡ None
none-yet s room bits found h was = go (first_place s.rules (length h.prefix) s.before h.rest) refl
  where
    go : (o : Option Found) → first_place s.rules (length h.prefix) s.before h.rest ≡ o
        → first_place s.rules (length h.prefix) s.before h.rest ≡ None
    go None e = e
    go (Some f) e =
        let no : Some (awaited_at s.before f) ≡ None = sym (h.awaited_is ∙ ap (option_map (awaited_at s.before)) e)
        ∙ was in absurd (cc)

-- the bits after the last codeblock
after-is : (s : Searching) (room : List ℕ) (bits : List Bool) (found : List Found) (h : Parts s room bits found)
    → s.pushed ≡ s.start + length h.rest
after-is s room bits found h = omega (arith, h.pushed_is, h.start_is, ap length h.parts, length-append h.prefix h.rest)

-- the room holds the bits from the end of the last codeblock on
recent-start : (s s' : Searching) (room room' : List ℕ) (b : Bool) (bits : List Bool) (found : List Found)
    → Parts s room bits found → s.awaited ≡ None → s'.start ≡ s.start
    → Remembers room room' bits b → IsRecent room' (bits ++ b ∷ []) s'.start
recent-start s s' room room' b bits found h was start kept =
    subst (IsRecent room' (bits ++ b ∷ [])) (sym start)
    (kept.recent s.start (subst (λ (o : Option Awaited). IsRecent room bits (from_of s o)) was h.recent))

-- what the search keeps of a place that is reported: its codeblock is not whole, or it was verified
abbrev IsReported : Searching → List Bool → Option Found → Type 0
IsReported s bits None = s.after ≡ 0
IsReported s bits (Some f) = (f.place + 32 + s.after ≡ s.pushed)
    × ((s.after ≤ s.rules.block_bits) ⊎ ((s.after ≡ verify_bits s.rules)
    × (are_verified s.rules f.inverted s.rules.verify (drop f.place bits) ≡ true)))

-- no place was awaited, and now the search awaits that which there is, or none
reported : (s s' : Searching) (room room' : List ℕ) (b : Bool) (bits : List Bool) (found : List Found)
    (h : Parts s room bits found) → Grows s s' b → Remembers room room' bits b
    → s.awaited ≡ None → (o : Option Found) → first_place s.rules (length h.prefix) s.before (h.rest ++ b ∷ []) ≡ o
    → s'.awaited ≡ option_map (awaited_at s.before) o
    → IsReported s' (bits ++ b ∷ []) o → SearchStandsFor s' room' (bits ++ b ∷ []) found
reported s s' room room' b bits found h g kept was None ahead awaited fresh =
    grown s s' room room' b bits found h g kept.sized None ahead awaited tt fresh tt
    (recent-start s s' room room' b bits found h was g.start kept)
reported s s' room room' b bits found h g kept was (Some f) ahead awaited (ends, run) =
    let start = first_place-start s.rules (length h.prefix) s.before (h.rest ++ b ∷ []) f ahead in
    let same = g.start in
    let at = h.start_is in
    let there : s'.start ≤ f.place = omega arith in
    grown s s' room room' b bits found h g kept.sized (Some f) ahead awaited ends tt (run-at run)
    (recent-from s' (awaited_at s.before f) room' (bits ++ b ∷ []) s'.start (omega arith) there
    (recent-start s s' room room' b bits found h was g.start kept))
  where
    run-at : (s'.after ≤ s'.rules.block_bits) ⊎ ((s'.after ≡ verify_bits s'.rules)
        × (are_verified s'.rules f.inverted s'.rules.verify (drop f.place (bits ++ b ∷ [])) ≡ true))
        → IsRun s' (bits ++ b ∷ []) (Some (awaited_at s.before f))
    run-at (inl few) = inl few
    run-at (inr (count, is)) = inr (s'.rules.verify, count, is)

-- ---- what the last 32 bits show
-- Right after a codeblock they are a place.
right-is : (s : Searching) (room : List ℕ) (bits : List Bool) (found : List Found) (h : Parts s room bits found)
    (b : Bool) → is_right_after (length h.rest + 1) s.before ≡ true
    → (length (h.rest ++ b ∷ []) ≡ 32) × (first_place s.rules (length h.prefix) s.before (h.rest ++ b ∷ [])
    ≡ place_by s.rules (length h.prefix) s.before (h.rest ++ b ∷ []) (match_of s.rules (h.rest ++ b ∷ [])))
right-is s room bits found h b right = go s.before right
  where
    go : (before : Option Before) → is_right_after (length h.rest + 1) before ≡ true
        → (length (h.rest ++ b ∷ []) ≡ 32) × (first_place s.rules (length h.prefix) before (h.rest ++ b ∷ [])
        ≡ place_by s.rules (length h.prefix) before (h.rest ++ b ∷ []) (match_of s.rules (h.rest ++ b ∷ [])))
    go None e = absurd (cc)
    go (Some before) e =
        let test : (length h.rest + 1 == 32) ≡ true = e in
        let many : length h.rest + 1 ≡ 32 = grind (arith, nat_tests) in
        let size : length (h.rest ++ b ∷ []) ≡ 32 = length-append h.rest (b ∷ []) ∙ many in
        (size, first_place-right s.rules (length h.prefix) before (h.rest ++ b ∷ []) size)

-- Elsewhere there is none as long as they can verify none ..
waits-is : (s : Searching) (room : List ℕ) (bits : List Bool) (found : List Found) (h : Parts s room bits found)
    (b : Bool) → s.awaited ≡ None
    → is_right_after (length h.rest + 1) s.before ≡ false → length h.rest < 32 + verify_bits s.rules
    → (s.before ≡ None → length h.rest + 1 < 32 + verify_bits s.rules)
    → first_place s.rules (length h.prefix) s.before (h.rest ++ b ∷ []) ≡ None
waits-is s room bits found h b was right few fewer =
    go s.before right fewer (none-yet s room bits found h was) (cases_lt (length h.rest + 1) 32)
  where
    go : (before : Option Before) → is_right_after (length h.rest + 1) before ≡ false
        → (before ≡ None → length h.rest + 1 < 32 + verify_bits s.rules)
        → first_place s.rules (length h.prefix) before h.rest ≡ None → (length h.rest + 1 < 32)
        ⊎ (32 ≤ length h.rest + 1) → first_place s.rules (length h.prefix) before (h.rest ++ b ∷ []) ≡ None
    go None right fewer yet c =
        let less = fewer refl in
        first_place-short s.rules (length h.prefix) None (h.rest ++ b ∷ [])
        (omega (arith, length-append h.rest (b ∷ [])))
    go (Some before) right fewer yet (inl short) =
        first_place-short s.rules (length h.prefix) (Some before) (h.rest ++ b ∷ [])
        (omega (arith, length-append h.rest (b ∷ [])))
    go (Some before) right fewer yet (inr long) =
        let test : (length h.rest + 1 == 32) ≡ false = right in
        let more : 32 ≤ length h.rest = grind (arith, nat_tests) in
        first_place-waits s.rules (length h.prefix) before h.rest b more few yet

-- what the bits before the last 32, as many as verify a place, are
abbrev prefix_of : Rules → List Bool → ℕ
prefix_of rules bits = length bits - (32 + verify_bits rules)

abbrev back_of : Rules → List Bool → List Bool
back_of rules bits = drop (prefix_of rules bits) bits

-- .. and then that which they verify.
verified-is : (s : Searching) (room : List ℕ) (bits : List Bool) (found : List Found) (h : Parts s room bits found)
    (b : Bool) → s.awaited ≡ None
    → is_right_after (length h.rest + 1) s.before ≡ false → 32 + verify_bits s.rules ≤ length h.rest + 1
    → (length h.prefix ≤ prefix_of s.rules (bits ++ b ∷ [])) × (32 + verify_bits s.rules ≤ length (bits ++ b ∷ []))
    × (first_place s.rules (length h.prefix) s.before (h.rest ++ b ∷ [])
    ≡ here s.rules (prefix_of s.rules (bits ++ b ∷ [])) None (back_of s.rules (bits ++ b ∷ [])))
verified-is s room bits found h b was right enough =
    let n : ℕ = length h.rest - (31 + verify_bits s.rules) in
    let before = take n h.rest in
    let init = drop n h.rest in
    let short : length before ≡ n = length-take-le n h.rest (omega arith) in
    let left = length-drop n h.rest in
    let size : length init + 1 ≡ 32 + verify_bits s.rules = omega arith in
    let parts : h.rest ≡ before ++ init = sym (take-append-drop n h.rest) in
    let whole : bits ++ b ∷ [] ≡ (h.prefix ++ before) ++ (init ++ b ∷ []) =
    ap (λ l. l ++ b ∷ []) (h.parts ∙ ap (λ l. h.prefix ++ l) parts ∙ sym (append_assoc h.prefix before init))
    ∙ append_assoc (h.prefix ++ before) init (b ∷ []) in
    let all : length (bits ++ b ∷ []) ≡ length h.prefix + length h.rest + 1 = length-append bits (b ∷ [])
    ∙ ap (λ n. n + 1) (ap length h.parts ∙ length-append h.prefix h.rest) in
    let at : length h.prefix + length before ≡ prefix_of s.rules (bits ++ b ∷ []) = omega arith in
    let last : back_of s.rules (bits ++ b ∷ []) ≡ init ++ b ∷ [] =
    ap (drop (prefix_of s.rules (bits ++ b ∷ []))) whole
    ∙ drop_at (h.prefix ++ before) (init ++ b ∷ []) (prefix_of s.rules (bits ++ b ∷ []))
    (length-append h.prefix before ∙ at) in
    let yet : first_place s.rules (length h.prefix) s.before (before ++ init) ≡ None =
    ap (first_place s.rules (length h.prefix) s.before) (sym parts) ∙ none-yet s room bits found h was in (
      omega arith,
      omega arith,
      ap (first_place s.rules (length h.prefix) s.before) (ap (λ l. l ++ b ∷ []) parts
          ∙ append_assoc before init (b ∷ []))
          ∙ go before init size s.before refl parts yet
          ∙ (λ i. here s.rules (at i) None (sym last i)),
    )
  where
    -- right after a codeblock nothing matches any more
    again : (init : List Bool) (before : Before) → s.before ≡ Some before → h.rest ≡ init
        → length init + 1 ≡ 32 + verify_bits s.rules
        → first_place s.rules (length h.prefix) s.before (init ++ b ∷ [])
        ≡ here s.rules (length h.prefix + 0) None (init ++ b ∷ [])
    again init before is parts size =
        let rest : length h.rest ≡ length init = ap length parts in
        let test : (length h.rest + 1 == 32) ≡ false = ap (is_right_after (length h.rest + 1)) (sym is) ∙ right in
        let more : 32 ≤ length h.rest = grind (arith, nat_tests) in
        let yet : first_place s.rules (length h.prefix) (Some before) h.rest ≡ None =
        ap (λ o. first_place s.rules (length h.prefix) o h.rest) (sym is) ∙ none-yet s room bits found h was in
        let nothing : match_of s.rules (h.rest ++ b ∷ []) ≡ None =
        match_of-append s.rules h.rest (b ∷ []) more ∙ first_place-unmatched s.rules
        (length h.prefix) before h.rest more yet in
        (λ i. first_place s.rules (length h.prefix) (is i) (sym parts i ++ b ∷ []))
        ∙ first_place-waits s.rules (length h.prefix) before h.rest b more (omega arith) yet
        ∙ sym (ap (λ w. place_by s.rules (length h.prefix + 0) None (h.rest ++ b ∷ [])
        (verified s.rules (h.rest ++ b ∷ []) w)) nothing)
        ∙ ap (λ l. here s.rules (length h.prefix + 0) None (l ++ b ∷ [])) parts

    go : (prefix init : List Bool) → length init + 1 ≡ 32 + verify_bits s.rules → (before : Option Before)
        → s.before ≡ before → h.rest ≡ prefix ++ init
        → first_place s.rules (length h.prefix) s.before (prefix ++ init) ≡ None
        → first_place s.rules (length h.prefix) s.before (prefix ++ (init ++ b ∷ []))
        ≡ here s.rules (length h.prefix + length prefix) None (init ++ b ∷ [])
    go [] init size None is parts yet = first_place-settles s.rules (length h.prefix) s.before [] init b size is yet
    go [] init size (Some before) is parts yet = again init before is parts size
    go (c ∷ prefix) init size before is parts yet =
        first_place-settles s.rules (length h.prefix) s.before (c ∷ prefix) init b size refl yet

-- a place that nothing stands before says the same of what follows it
awaited-free : (rules : Rules) (at : ℕ) (before : Option Before) (bits : List Bool)
    → option_map (awaited_at None) (here rules at None bits) ≡ option_map (awaited_at before) (here rules at None bits)
awaited-free rules at before bits = go (seen (here rules at None bits))
  where
    go : Seen (here rules at None bits) → option_map (awaited_at None) (here rules at None bits)
        ≡ option_map (awaited_at before) (here rules at None bits)
    go (none e) = ap (option_map (awaited_at None)) e ∙ ap (option_map (awaited_at before)) (sym e)
    go (some f e) =
        ap (option_map (awaited_at None)) e
        ∙ (λ i. Some (record {
          found = f;
          next = after-matched before f
              (not-bridged-here rules at bits (place_polarity rules None bits) f e) i;
        }))
        ∙ ap (option_map (awaited_at before)) (sym e)

-- a place that is searched for is verified in its polarity
here-verified : (rules : Rules) (at : ℕ) (bits : List Bool) (f : Found) → here rules at None bits ≡ Some f
    → are_verified rules f.inverted rules.verify bits ≡ true
here-verified rules at bits f e = go (match_of rules bits) e
  where
    one : (inverted c : Bool) → are_verified rules inverted rules.verify bits ≡ c
        → place_by rules at None bits (cond c (Some inverted) None) ≡ Some f
        → are_verified rules f.inverted rules.verify bits ≡ true
    one inverted true is e =
        let same : found_at at false inverted bits ≡ f = cc in
        ap (λ (g : Found). are_verified rules g.inverted rules.verify bits) (sym same) ∙ is
    one inverted false is e = absurd (cc)

    go : (polarity : Option Bool) → place_by rules at None bits (verified rules bits polarity) ≡ Some f
        → are_verified rules f.inverted rules.verify bits ≡ true
    go None e = absurd (cc)
    go (Some inverted) e = one inverted (are_verified rules inverted rules.verify bits) refl e

pub right-least : (n : ℕ) (before : Option Before) → is_right_after n before ≡ true → n ≡ 32
right-least n None is = absurd (cc)
right-least n (Some before) is = grind (arith, nat_tests)

-- ---- a bit decides a place
reported-zero : (s : Searching) (bits : List Bool) (rules : Rules) (at : ℕ) (before : Option Before) (l : List Bool)
    (polarity : Option Bool) → s.after ≡ 0 → s.pushed ≡ at + 32
    → IsReported s bits (place_by rules at before l polarity)
reported-zero s bits rules at before l polarity fresh pushed = go (seen (place_by rules at before l polarity))
  where
    go : Seen (place_by rules at before l polarity) → IsReported s bits (place_by rules at before l polarity)
    go (none e) = subst (IsReported s bits) (sym e) fresh
    go (some f e) =
        let place : f.place ≡ at = place_by-place rules at before l polarity f e in
        let ends : f.place + 32 + s.after ≡ s.pushed = omega arith in
        let few : s.after ≤ s.rules.block_bits = omega arith in
        subst (IsReported s bits) (sym e) (ends, inl few)

pub reported_right : (s now : Searching) (room room' : List ℕ) (b : Bool) (a : Option Awaited) (bits : List Bool)
    (found : List Found) → Counts s now b → Remembers room room' bits b
    → s.awaited ≡ None → is_right_after (now.pushed - now.start) now.before ≡ true
    → ((l : List Bool) → length l ≡ 32 → now.received ≡ number_of l
    → a ≡ option_map (awaited_at now.before)
    (place_by now.rules (now.pushed - 32) now.before l (match_of now.rules l)))
    → SearchStandsFor s room bits found
    → SearchStandsFor (record now { awaited = a; after = 0 }) room' (bits ++ b ∷ []) found
reported_right s now room room' b a bits found c kept was right looks stood =
    let h = parts_of s room bits found stood in
    let s' : Searching = record now { awaited = a; after = 0 } in
    let g : Grows s s' b = grows s now s' b c refl refl refl refl refl in
    let l : List Bool = h.rest ++ b ∷ [] in
    let pushed = c.pushed in
    let start = c.start in
    let many = after-is s room bits found h in
    let at_is = h.start_is in
    let since : now.pushed - now.start ≡ length h.rest + 1 = omega arith in
    let r = right-is s room bits found h b ((λ i. is_right_after (sym since i) (sym c.before i)) ∙ right) in
    let size = r.0 in
    let more = length-append h.rest (b ∷ []) in
    let place : now.pushed - 32 ≡ length h.prefix = omega arith in
    let received : now.received ≡ number_of l =
    last-32 now.received h.prefix l size (g.received ∙ received-push s.received b bits h.received_is
    ∙ ap (λ n. n % 2 ^ 32) (sym (number-value (bits ++ b ∷ [])))
    ∙ ap (λ v. number_of v % 2 ^ 32) (ap (λ v. v ++ b ∷ []) h.parts ∙ append_assoc h.prefix h.rest (b ∷ []))) in
    let is : a ≡ option_map (awaited_at s.before) (place_by s.rules (length h.prefix) s.before l (match_of s.rules l)) =
    looks l size received ∙ (λ i. option_map (awaited_at (c.before i))
    (place_by (c.rules i) (place i) (c.before i) l (match_of (c.rules i) l))) in
    reported s s' room room' b bits found h g kept was (place_by s.rules (length h.prefix) s.before l
    (match_of s.rules l)) r.1 is
    (reported-zero s' (bits ++ b ∷ []) s.rules (length h.prefix) s.before l (match_of s.rules l) refl (omega arith))

-- too few bits follow the last codeblock to be a marker
pub push_short : (s s' : Searching) (room room' : List ℕ) (more : List Bool) → s.awaited ≡ None
    → s'.rules ≡ s.rules → s'.pushed ≡ s.pushed + length more → s'.start ≡ s.start
    → s'.before ≡ s.before → s'.awaited ≡ s.awaited → s'.after ≡ s.after → s'.pushed - s'.start < 32
    → length room' ≡ length room → (bits : List Bool) (found : List Found)
    → s'.received ≡ number_of (bits ++ more) % 2 ^ 32
    → (IsRecent room bits s.start → IsRecent room' (bits ++ more) s.start)
    → SearchStandsFor s room bits found
    → SearchStandsFor s' room' (bits ++ more) found
push_short s s' room room' more was rules pushed start before stays after few size bits found received kept stood =
    let h = parts_of s room bits found stood in
    let many = after-is s room bits found h in
    let long = length-append h.rest more in
    let enough = deciding-marker s.rules s.before in
    gone_on s s' room room' more bits found h rules pushed start before
    (received ∙ ap (λ n. n % 2 ^ 32) (number-value (bits ++ more))) size None
    (first_place-short s.rules (length h.prefix) s.before (h.rest ++ more) (omega arith))
    (stays ∙ was) tt (after ∙ subst (Fresh s) was h.fresh) tt
    (subst (IsRecent room' (bits ++ more)) (sym start)
    (kept (subst (λ (o : Option Awaited). IsRecent room bits (from_of s o)) was h.recent)))

pub short-bit : (s now : Searching) (room room' : List ℕ) (b : Bool) (bits : List Bool)
    (found : List Found) → Counts s now b → Remembers room room' bits b
    → s.awaited ≡ None → now.pushed - now.start < 32 → SearchStandsFor s room bits found
    → SearchStandsFor now room' (bits ++ b ∷ []) found
short-bit s now room room' b bits found c kept was few stood =
    let h = parts_of s room bits found stood in
    let g : Grows s now b = grows s now now b c refl refl refl refl refl in
    push_short s now room room' (b ∷ []) was c.rules c.pushed c.start c.before c.awaited c.after few
    kept.sized bits found
    (g.received ∙ received-push s.received b bits h.received_is
    ∙ ap (λ n. n % 2 ^ 32) (sym (number-value (bits ++ b ∷ [])))) (kept.recent s.start) stood

pub reported_waits : (s now : Searching) (room room' : List ℕ) (b : Bool) (bits : List Bool) (found : List Found)
    → Counts s now b → Remembers room room' bits b
    → s.awaited ≡ None → is_right_after (now.pushed - now.start) now.before ≡ false
    → now.pushed - now.start < 32 + verify_bits now.rules
    → SearchStandsFor s room bits found
    → SearchStandsFor (record now { awaited = None; after = 0 }) room' (bits ++ b ∷ []) found
reported_waits s now room room' b bits found c kept was right few stood =
    let h = parts_of s room bits found stood in
    let s' : Searching = record now { awaited = None; after = 0 } in
    let pushed = c.pushed in
    let start = c.start in
    let many = after-is s room bits found h in
    let since : now.pushed - now.start ≡ length h.rest + 1 = omega arith in
    let lag : verify_bits now.rules ≡ verify_bits s.rules = ap verify_bits c.rules in
    let less : length h.rest + 1 < 32 + verify_bits s.rules = omega arith in
    reported s s' room room' b bits found h (grows s now s' b c refl refl refl refl refl) kept was None
    (waits-is s room bits found h b was ((λ i. is_right_after (sym since i) (sym c.before i)) ∙ right) (omega arith)
    (λ _. less)) refl refl

pub reported_verified : (s now : Searching) (room room' : List ℕ) (b : Bool) (a : Option Awaited) (n : ℕ)
    (bits : List Bool) (found : List Found) → Counts s now b → Remembers room room' bits b
    → s.awaited ≡ None → is_right_after (now.pushed - now.start) now.before ≡ false
    → 32 + verify_bits now.rules ≤ now.pushed - now.start → IfSome a (λ _. n ≡ verify_bits now.rules)
    → IfNone a (n ≡ 0)
    → ((from : ℕ) → Recalls now room' (bits ++ b ∷ []) from
    → from + (32 + verify_bits now.rules) ≤ length (bits ++ b ∷ [])
    → a ≡ option_map (awaited_at None) (here now.rules (prefix_of now.rules (bits ++ b ∷ [])) None
    (back_of now.rules (bits ++ b ∷ []))))
    → SearchStandsFor s room bits found
    → SearchStandsFor (record now { awaited = a; after = n }) room' (bits ++ b ∷ []) found
reported_verified s now room room' b a n bits found c kept was right enough taken waits looks stood =
    let h = parts_of s room bits found stood in
    let s' : Searching = record now { awaited = a; after = n } in
    let g : Grows s s' b = grows s now s' b c refl refl refl refl refl in
    let all : List Bool = bits ++ b ∷ [] in
    let pushed = c.pushed in
    let start = c.start in
    let many = after-is s room bits found h in
    let at_is = h.start_is in
    let since : now.pushed - now.start ≡ length h.rest + 1 = omega arith in
    let lag : verify_bits now.rules ≡ verify_bits s.rules = ap verify_bits c.rules in
    let there : 32 + verify_bits s.rules ≤ length h.rest + 1 = omega arith in
    let v = verified-is s room bits found h b was ((λ i. is_right_after (sym since i) (sym c.before i)) ∙ right) there
    in
    let low = v.0 in
    let room_for = v.1 in
    let count : now.pushed ≡ length all = c.pushed ∙ ap (λ k. k + 1) h.pushed_is ∙ sym (length-append bits (b ∷ [])) in
    let is : a ≡ option_map (awaited_at s.before) (here s.rules (prefix_of s.rules all) None (back_of s.rules all)) =
    looks s'.start (record {
      pushed = count;
      received =
          g.received ∙ received-push s.received b bits h.received_is ∙ ap (λ k. k % 2 ^ 32) (sym (number-value all));
      sized = kept.sized ∙ h.sized ∙ sym lag;
      recent = recent-start s s' room room' b bits found h was g.start kept;
    }) (omega arith)
    ∙ (λ i. option_map (awaited_at None) (here (c.rules i) (prefix_of (c.rules i) all) None (back_of (c.rules i) all)))
    ∙ awaited-free s.rules (prefix_of s.rules all) s.before (back_of s.rules all) in
    reported s s' room room' b bits found h g kept was (here s.rules (prefix_of s.rules all) None
    (back_of s.rules all)) v.2 is
    (go (seen (here s.rules (prefix_of s.rules all) None (back_of s.rules all))) is count room_for)
  where
    go : Seen (here s.rules (prefix_of s.rules (bits ++ b ∷ [])) None (back_of s.rules (bits ++ b ∷ [])))
        → a ≡ option_map (awaited_at s.before) (here s.rules (prefix_of s.rules (bits ++ b ∷ [])) None
        (back_of s.rules (bits ++ b ∷ [])))
        → now.pushed ≡ length (bits ++ b ∷ []) → 32 + verify_bits s.rules ≤ length (bits ++ b ∷ [])
        → IsReported (record now { awaited = a; after = n }) (bits ++ b ∷ [])
        (here s.rules (prefix_of s.rules (bits ++ b ∷ [])) None (back_of s.rules (bits ++ b ∷ [])))
    go (none e) is count room_for =
        let free : a ≡ None = is ∙ ap (option_map (awaited_at s.before)) e in
        subst (IsReported (record now { awaited = a; after = n }) (bits ++ b ∷ [])) (sym e)
        (subst (λ (o : Option Awaited). IfNone o (n ≡ 0)) free waits)
    go (some f e) is count room_for =
        let there : a ≡ Some (awaited_at s.before f) = is ∙ ap (option_map (awaited_at s.before)) e in
        let lag : verify_bits now.rules ≡ verify_bits s.rules = ap verify_bits c.rules in
        let since : n ≡ verify_bits now.rules = subst (λ (o : Option Awaited). IfSome o
        (λ _. n ≡ verify_bits now.rules)) there taken in
        let place : f.place ≡ prefix_of s.rules (bits ++ b ∷ []) =
        place_by-place s.rules (prefix_of s.rules (bits ++ b ∷ [])) None (back_of s.rules (bits ++ b ∷ []))
        (place_polarity s.rules None (back_of s.rules (bits ++ b ∷ []))) f e in
        let ends : f.place + 32 + n ≡ now.pushed = omega arith in
        let held : are_verified now.rules f.inverted now.rules.verify (drop f.place (bits ++ b ∷ [])) ≡ true =
        (λ i. are_verified (c.rules i) f.inverted ((c.rules i).verify) (drop (place i) (bits ++ b ∷ [])))
        ∙ here-verified s.rules (prefix_of s.rules (bits ++ b ∷ [])) (back_of s.rules (bits ++ b ∷ [])) f e in
        subst (IsReported (record now { awaited = a; after = n }) (bits ++ b ∷ [])) (sym e) (ends, inr (since, held))

-- the last 32 bits match in no way, and none is bridged there
pub push_far : (s s' : Searching) (room room' : List ℕ) (b : Bool) (bits : List Bool) (found : List Found)
    → Grows s s' b → Remembers room room' bits b
    → s.awaited ≡ None → s'.awaited ≡ None → s'.after ≡ s.after → s'.start + 32 < s'.pushed
    → ((l : List Bool) → length l ≡ 32 → s'.received ≡ number_of l → match_of s.rules l ≡ None)
    → SearchStandsFor s room bits found → SearchStandsFor s' room' (bits ++ b ∷ []) found
push_far s s' room room' b bits found g kept was free same enough far stood =
    let h = parts_of s room bits found stood in
    let pushed = g.pushed in
    let start = g.start in
    let many = after-is s room bits found h in
    let long : 32 < length h.rest + 1 = omega arith in
    reported s s' room room' b bits found h g kept was None
    (go h long (cases_lt (length h.rest + 1) (32 + verify_bits s.rules))) free
    (same ∙ subst (Fresh s) was h.fresh)
  where
    right : (n : ℕ) (before : Option Before) → 32 < n → is_right_after n before ≡ false
    right n None more = refl
    right n (Some before) more = grind (arith, nat_tests)

    go : (h : Parts s room bits found) → 32 < length h.rest + 1
        → (length h.rest + 1 < 32 + verify_bits s.rules) ⊎ (32 + verify_bits s.rules ≤ length h.rest + 1)
        → first_place s.rules (length h.prefix) s.before (h.rest ++ b ∷ []) ≡ None
    go h long (inl few) =
        waits-is s room bits found h b was (right (length h.rest + 1) s.before long) (omega arith) (λ _. few)
    go h long (inr there) =
        let all : List Bool = bits ++ b ∷ [] in
        let v = verified-is s room bits found h b was (right (length h.rest + 1) s.before long) there in
        let room_for = v.1 in
        let last : prefix_of s.rules all + verify_bits s.rules ≡ length all - 32 = omega arith in
        let left = length-drop (length all - 32) all in
        let received : s'.received ≡ number_of all % 2 ^ 32 = g.received ∙ received-push s.received b bits h.received_is
        ∙ ap (λ k. k % 2 ^ 32) (sym (number-value all)) in
        let no : match_of s.rules (drop (verify_bits s.rules) (back_of s.rules all)) ≡ None =
        ap (match_of s.rules) (drop-drop (verify_bits s.rules) (prefix_of s.rules all) all ∙ ap (λ k. drop k all) last)
        ∙ far (drop (length all - 32) all) (omega arith) (received-last s'.received all (omega arith) received) in
        v.2 ∙ ap (place_by s.rules (prefix_of s.rules all) None (back_of s.rules all))
        (place_polarity-far s.rules (back_of s.rules all) no)

-- ---- places are reported
pub stands_first : (s : Searching) (room : List ℕ) → length room ≡ verify_bits s.rules → s.pushed ≡ 0 → s.start ≡ 0
    → s.received ≡ 0 → s.before ≡ None → s.awaited ≡ None → s.after ≡ 0
    → SearchStandsFor s room [] []
stands_first s room size pushed start received before free fresh = stands_of s room [] [] record {
  prefix = [];
  rest = [];
  parts = refl;
  found_first = refl;
  ends = refl;
  start_is = start;
  pushed_is = pushed;
  before_is = before;
  received_is = received;
  awaited_is = free ∙ ap (option_map (awaited_at s.before)) (sym (first_place-nil s.rules 0 s.before));
  after_is = subst (Ends s) (sym free) tt;
  fresh = subst (Fresh s) (sym free) fresh;
  run = subst (IsRun s []) (sym free) tt;
  sized = size;
  recent = λ i low within held. absurd (omega arith);
}

-- the places of the bits are those found, and then those after them
places-on : (s : Searching) (room : List ℕ) (bits more : List Bool) (found : List Found) (h : Parts s room bits found)
    → places s.rules (bits ++ more) ≡ found ++ places_from s.rules (length h.prefix) 0 s.before (h.rest ++ more)
places-on s room bits more found h =
    let rest : drop (end_of s.rules found) bits ≡ h.rest = (λ i. drop (h.ends i) (h.parts i))
    ∙ drop-prefix h.prefix h.rest in
    places-after s.rules bits more found h.found_first
    ∙ (λ i. found ++ places_from s.rules (h.ends i) 0 (sym h.before_is i) (rest i ++ more))

places-now : (s : Searching) (room : List ℕ) (bits : List Bool) (found : List Found) (h : Parts s room bits found)
    → places s.rules bits ≡ found ++ places_from s.rules (length h.prefix) 0 s.before h.rest
places-now s room bits found h =
    ap (places s.rules) (sym (append-nil bits)) ∙ places-on s room bits [] found h
    ∙ ap (λ l. found ++ places_from s.rules (length h.prefix) 0 s.before l) (append-nil h.rest)

-- nothing waits, so all places were reported
pub reported_all : (s : Searching) (room : List ℕ) → is_pending s ≡ false → (bits : List Bool) (found : List Found)
    → SearchStandsFor s room bits found → places s.rules bits ≡ found
reported_all s room free bits found stood =
    let h = parts_of s room bits found stood in
    places-now s room bits found h ∙ ap (λ fs. found ++ fs)
    (go h (first_place s.rules (length h.prefix) s.before h.rest) refl) ∙ append-nil found
  where
    go : (h : Parts s room bits found) (o : Option Found) → first_place s.rules (length h.prefix) s.before h.rest ≡ o
        → places_from s.rules (length h.prefix) 0 s.before h.rest ≡ []
    go h None e = places_from-none s.rules (length h.prefix) s.before h.rest e
    go h (Some f) e =
        let is : s.awaited ≡ Some (awaited_at s.before f) = h.awaited_is ∙ ap (option_map (awaited_at s.before)) e in
        let after : f.place + 32 + s.after ≡ s.pushed = subst (Ends s) is h.after_is in
        let fewer : s.after < s.rules.block_bits = not-whole s (awaited_at s.before f) is free in
        places_from-unfinished s.rules (length h.prefix) s.before h.rest f e
        (omega (arith, h.pushed_is, ap length h.parts, length-append h.prefix h.rest))

-- how many places there may be with further bits
pub reported-few : (s : Searching) (room : List ℕ) (bits more : List Bool) (found : List Found)
    → SearchStandsFor s room bits found
    → length (places s.rules (bits ++ more)) * (32 + s.rules.block_bits)
    ≤ length found * (32 + s.rules.block_bits) + begun_of s + length more
reported-few s room bits more found stood =
    let h = parts_of s room bits found stood in
    let further = places_from s.rules (length h.prefix) 0 s.before (h.rest ++ more) in
    let all : length (places s.rules (bits ++ more)) ≡ length found + length further =
    ap length (places-on s room bits more found h) ∙ length-append found further in
    omega (
      arith,
      ap (λ n. n * (32 + s.rules.block_bits)) all,
      go h (first_place s.rules (length h.prefix) s.before h.rest) refl,
    )
  where
    begun : (o : Option Awaited) → s.awaited ≡ o → begun_of s
        ≡ option_map_or (λ count. 32 + count) (option_map (λ _. s.after) o) (31 + verify_bits s.rules)
    begun o is =
        ap (λ (o : Option Awaited). option_map_or (λ count. 32 + count) (option_map (λ _. s.after) o)
        (31 + verify_bits s.rules)) is

    go : (h : Parts s room bits found) (o : Option Found) → first_place s.rules (length h.prefix) s.before h.rest ≡ o
        → length (places_from s.rules (length h.prefix) 0 s.before (h.rest ++ more)) * (32 + s.rules.block_bits)
        ≤ begun_of s + length more
    go h None e =
        let is : s.awaited ≡ None = h.awaited_is ∙ ap (option_map (awaited_at s.before)) e in
        omega (arith, begun None is, places_from-none_ahead s.rules (length h.prefix) s.before h.rest more e)
    go h (Some f) e =
        let is : s.awaited ≡ Some (awaited_at s.before f) = h.awaited_is ∙ ap (option_map (awaited_at s.before)) e in
        let after : f.place + 32 + s.after ≡ s.pushed = subst (Ends s) is h.after_is in
        omega (
          arith,
          begun (Some (awaited_at s.before f)) is,
          after,
          h.pushed_is,
          ap length h.parts,
          length-append h.prefix h.rest,
          places_from-ahead s.rules (length h.prefix) s.before h.rest more f e,
        )

-- ---- codeblocks that were verified together
div-less : (n u : ℕ) → n < u → n / u ≡ 0
div-less n u less = ap (λ k. k / u) (zero-row n u) ∙ div-mul-add 0 u n less
  where
    zero-row : (n u : ℕ) → n ≡ 0 * u + n
    zero-row n u = omega arith

div-more : (n u : ℕ) → 0 < u → (u + n) / u ≡ suc (n / u)
div-more n u any =
    let rows = div-add-mod' n u in
    let split : u + n ≡ suc (n / u) * u + n % u = omega arith in
    ap (λ k. k / u) split ∙ div-mul-add (suc (n / u)) u (n % u) (mod_below n u any)

and-both : (a b : Bool) → (a && b) ≡ true → (a ≡ true) × (b ≡ true)
and-both true b e = (refl, e)
and-both false b e = absurd (cc)

-- the places in bits that codeblocks stand in one right after the other
record Rest (rules : Rules) (at : ℕ) (before : Before) (bits : List Bool) : Type 0 where
  many : length (places_from rules at 0 (Some before) bits) ≡ length bits / (32 + rules.block_bits)
  ends : end_after rules at (places_from rules at 0 (Some before) bits)
      ≡ at + length (places_from rules at 0 (Some before) bits) * (32 + rules.block_bits)

rest-short : (rules : Rules) (at : ℕ) (before : Before) (bits : List Bool) → length bits < 32 + rules.block_bits
    → Rest rules at before bits
rest-short rules at before bits short =
    let nothing = places_from-short rules at (Some before) bits short in
    record {
      many = ap length nothing ∙ sym (div-less (length bits) (32 + rules.block_bits) short);
      ends =
          ap (end_after rules at) nothing
          ∙ omega (arith, ap (λ (fs : List Found). length fs * (32 + rules.block_bits)) nothing);
    }

rest-more : (rules : Rules) (inverted : Bool) (at : ℕ) (before : Before) (bits : List Bool)
    → 32 + rules.block_bits ≤ length bits → match_of rules bits ≡ Some inverted
    → ((before : Before) → Rest rules (at + 32 + rules.block_bits) before (drop (32 + rules.block_bits) bits))
    → Rest rules at before bits
rest-more rules inverted at before bits room match more =
    let u : ℕ = 32 + rules.block_bits in
    let f : Found = found_at at false inverted bits in
    let next : Before = before_next (Some before) f in
    let r = more next in
    let since = places_from rules (at + 32 + rules.block_bits) 0 (Some next) (drop u bits) in
    let split : take u bits ++ drop u bits ≡ bits = take-append-drop u bits in
    let all : places_from rules at 0 (Some before) bits ≡ f ∷ since =
    ap (places_from rules at 0 (Some before)) (sym split)
    ∙ places_from-hit rules at (Some before) (take u bits) (drop u bits) f (length-take-le u bits room)
    (ap (place_at rules at (Some before)) split ∙ place_at-room rules at (Some before) bits room
    ∙ ap (place_by rules at (Some before) bits) match) in
    let left = length-drop u bits in
    let size : length bits ≡ u + length (drop u bits) = omega arith in
    let further = r.ends in
    record {
      many =
          ap length all ∙ ap suc r.many ∙ sym (div-more (length (drop u bits)) u (omega arith))
          ∙ ap (λ n. n / u) (sym size);
      ends = ap (end_after rules at) all ∙ r.ends ∙ omega (arith, ap (λ (fs : List Found). length fs * u) all);
    }

rest-run : (rules : Rules) (inverted : Bool) (count at : ℕ) (before : Before) (bits : List Bool)
    → length bits ≡ count * (32 + rules.block_bits) + 32 → match_of rules bits ≡ Some inverted
    → are_verified rules inverted count bits ≡ true → Rest rules at before bits
rest-run rules inverted zero at before bits size match held = go (cases_lt (length bits) (32 + rules.block_bits))
  where
    go : (length bits < 32 + rules.block_bits) ⊎ (32 + rules.block_bits ≤ length bits) → Rest rules at before bits
    go (inl short) = rest-short rules at before bits short
    go (inr room) =
        let left = length-drop (32 + rules.block_bits) bits in
        rest-more rules inverted at before bits room match
        (λ next. rest-short rules (at + 32 + rules.block_bits) next (drop (32 + rules.block_bits) bits) (omega arith))
rest-run rules inverted (suc count) at before bits size match held =
    let left = length-drop (32 + rules.block_bits) bits in
    let both = and-both (matches_in (match_of rules (drop (32 + rules.block_bits) bits)) inverted)
    (are_verified rules inverted count (drop (32 + rules.block_bits) bits))
    (sym (are_verified-more rules inverted count bits (omega arith)) ∙ held) in
    rest-more rules inverted at before bits (omega arith) match
    (λ next. rest-run rules inverted count (at + 32 + rules.block_bits) next (drop (32 + rules.block_bits) bits)
    (omega arith) (matches_in-is (match_of rules (drop (32 + rules.block_bits) bits)) inverted both.0) both.1)

-- after the codeblock of the place awaited there are no bits, or those of a marker that matches as its own, and so on
abbrev IsRunAfter : Searching → List Bool → Awaited → Type 0
IsRunAfter s bits m =
    let left = drop (m.found.place + 32 + s.rules.block_bits) bits in
    (length left ≡ 0) ⊎ ((count : ℕ) × (length left ≡ count * (32 + s.rules.block_bits) + 32)
    × (match_of s.rules left ≡ Some m.found.inverted)
    × (are_verified s.rules m.found.inverted count left ≡ true))

-- those bits, where the codeblock is whole
record Left (s : Searching) (bits : List Bool) (m : Awaited) : Type 0 where
  size : length (drop (m.found.place + 32 + s.rules.block_bits) bits) ≡ s.after - s.rules.block_bits
  run : IsRunAfter s bits m

left-of : (s : Searching) (bits : List Bool) (m : Awaited) → s.rules.block_bits ≤ s.after
    → m.found.place + 32 + s.after ≡ length bits → IsRun s bits (Some m) → Left s bits m
left-of s bits m full ends run =
    let left = length-drop (m.found.place + 32 + s.rules.block_bits) bits in
    let size : length (drop (m.found.place + 32 + s.rules.block_bits) bits) ≡ s.after - s.rules.block_bits =
    omega arith in
    record { size = size; run = go size run }
  where
    go : length (drop (m.found.place + 32 + s.rules.block_bits) bits) ≡ s.after - s.rules.block_bits
        → IsRun s bits (Some m)
        → IsRunAfter s bits m
    go size (inl few) = inl (omega arith)
    go size (inr (zero, count, held)) = inl (omega arith)
    go size (inr (suc more, count, held)) =
        let u : ℕ = 32 + s.rules.block_bits in
        let there : m.found.place + u ≡ m.found.place + 32 + s.rules.block_bits = omega arith in
        let next : drop u (drop m.found.place bits) ≡ drop (m.found.place + 32 + s.rules.block_bits) bits =
        drop-drop u m.found.place bits ∙ ap (λ n. drop n bits) there in
        let since = length-drop m.found.place bits in
        let both = and-both (matches_in (match_of s.rules (drop u (drop m.found.place bits))) m.found.inverted)
        (are_verified s.rules m.found.inverted more (drop u (drop m.found.place bits)))
        (sym (are_verified-more s.rules m.found.inverted more (drop m.found.place bits) (omega arith)) ∙ held) in
        inr (
          more,
          omega arith,
          ap (match_of s.rules) (sym next)
              ∙ matches_in-is (match_of s.rules (drop u (drop m.found.place bits))) m.found.inverted both.0,
          ap (are_verified s.rules m.found.inverted more) (sym next) ∙ both.1,
        )

-- the awaited place, and those after it
record Reported (s : Searching) (bits : List Bool) (found : List Found) (m : Awaited) : Type 0 where
  full : s.rules.block_bits ≤ s.after
  ends : m.found.place + 32 + s.after ≡ length bits
  rest : List Found
  states : places s.rules bits ≡ found ++ m.found ∷ rest
  many : length rest ≡ (s.after - s.rules.block_bits) / (32 + s.rules.block_bits)
  last : end_after s.rules (m.found.place + 32 + s.rules.block_bits) rest
      ≡ m.found.place + 32 + s.rules.block_bits + length rest * (32 + s.rules.block_bits)
  left : Left s bits m
  next : before_next (before_past None found) m.found ≡ m.next

reported-of : (s : Searching) (room : List ℕ) (bits : List Bool) (found : List Found) (h : Parts s room bits found)
    (m : Awaited) → s.awaited ≡ Some m → is_pending s ≡ true → Reported s bits found m
reported-of s room bits found h m was pending =
    let a = ahead-is s room bits found h m was in
    let f = a.0 in
    let found_is : f ≡ m.found = ap (λ (v : Awaited). v.found) a.2 in
    let next_is : before_next s.before f ≡ m.next = ap (λ (v : Awaited). v.next) a.2 in
    let place : f.place ≡ m.found.place = ap (λ (v : Found). v.place) found_is in
    let full = whole s m was pending in
    let start = first_place-start s.rules (length h.prefix) s.before h.rest f a.1 in
    let pushed = h.pushed_is in
    let after : m.found.place + 32 + s.after ≡ s.pushed = subst (Ends s) was h.after_is in
    let ends : m.found.place + 32 + s.after ≡ length bits = omega arith in
    let left = left-of s bits m full ends (subst (IsRun s bits) was h.run) in
    let since : List Bool = drop (m.found.place + 32 + s.rules.block_bits) bits in
    let k : ℕ = f.place + 32 + s.rules.block_bits - length h.prefix in
    let both : length bits ≡ length h.prefix + length h.rest = ap length h.parts ∙ length-append h.prefix h.rest in
    let size : length (take k h.rest) ≡ k = length-take-le k h.rest (omega arith) in
    let there : length h.prefix + length (take k h.rest) ≡ m.found.place + 32 + s.rules.block_bits = omega arith in
    let far : length h.prefix + k ≡ m.found.place + 32 + s.rules.block_bits = omega arith in
    let tail : drop k h.rest ≡ since =
    ap (drop k) (sym (ap (drop (length h.prefix)) h.parts ∙ drop-prefix h.prefix h.rest))
    ∙ drop-drop k (length h.prefix) bits ∙ ap (λ n. drop n bits) far in
    let split : take k h.rest ++ drop k h.rest ≡ h.rest = take-append-drop k h.rest in
    let r = rest-of s bits m left in
    record {
      full = full;
      ends = ends;
      rest = places_from s.rules (m.found.place + 32 + s.rules.block_bits) 0 (Some m.next) since;
      states = places-now s room bits found h
          ∙ ap (λ fs. found ++ fs) (ap (places_from s.rules (length h.prefix) 0 s.before) (sym split)
          ∙ places_from-whole s.rules (length h.prefix) s.before (take k h.rest) (drop k h.rest) f
          (ap (first_place s.rules (length h.prefix) s.before) split ∙ a.1) (omega arith)
          ∙ (λ i. found_is i ∷ places_from s.rules (there i) 0 (Some (next_is i)) (tail i)));
      many = r.many ∙ ap (λ n. n / (32 + s.rules.block_bits)) left.size;
      last = r.ends;
      left = left;
      next = (λ i. before_next (sym h.before_is i) (sym found_is i)) ∙ next_is;
    }
  where
    rest-of : (s : Searching) (bits : List Bool) (m : Awaited) (left : Left s bits m)
        → Rest s.rules (m.found.place + 32 + s.rules.block_bits) m.next
        (drop (m.found.place + 32 + s.rules.block_bits) bits)
    rest-of s bits m left = go left.run
      where
        go : IsRunAfter s bits m → Rest s.rules (m.found.place + 32 + s.rules.block_bits) m.next
            (drop (m.found.place + 32 + s.rules.block_bits) bits)
        go (inl empty) =
            rest-short s.rules (m.found.place + 32 + s.rules.block_bits) m.next
            (drop (m.found.place + 32 + s.rules.block_bits) bits) (omega arith)
        go (inr (count, size, match, held)) =
            rest-run s.rules m.found.inverted count (m.found.place + 32 + s.rules.block_bits) m.next
            (drop (m.found.place + 32 + s.rules.block_bits) bits) size match held

-- the search reports the awaited place
pub record HasReported (s s' : Searching) (m : Awaited) : Type 0 where
  pub awaited_was : s.awaited ≡ Some m
  pub rules : s'.rules ≡ s.rules
  pub received : s'.received ≡ s.received
  pub pushed : s'.pushed ≡ s.pushed
  pub start : s'.start ≡ m.found.place + 32 + s.rules.block_bits
  pub before : s'.before ≡ Some m.next

end-last : (rules : Rules) (found : List Found) (f : Found)
    → end_of rules (found ++ f ∷ []) ≡ f.place + 32 + rules.block_bits
end-last rules [] f = refl
end-last rules (g ∷ []) f = refl
end-last rules (g ∷ g' ∷ found) f = end-last rules (g' ∷ found) f

before-last : (found : List Found) (f : Found) (before : Option Before)
    → before_past before (found ++ f ∷ []) ≡ Some (before_next (before_past before found) f)
before-last [] f before = refl
before-last (g ∷ found) f before = before-last found f (Some (before_next before g))

-- where the first 32 bits are a place right after a codeblock, it is the first
first-here : (rules : Rules) (at : ℕ) (before : Before) (bits : List Bool) (f : Found) → 32 ≤ length bits
    → here rules at (Some before) bits ≡ Some f → first_place rules at (Some before) bits ≡ Some f
first-here rules at before [] f long e = absurd (omega arith)
first-here rules at before (b ∷ bits) f long e = hit rules at (Some before) b bits f long e

pub inside-is : (s : Searching) (m : Awaited) → s.awaited ≡ Some m → unwrap_or (inside_of s) 0 ≡ s.after
inside-is s m was = ap (λ (o : Option Awaited). unwrap_or (option_map (λ _. s.after) o) 0) was

-- its codeblock lies in the bits
pub reported-fits : (s : Searching) (room : List ℕ) (m : Awaited) (bits : List Bool) (found : List Found)
    → s.awaited ≡ Some m → is_pending s ≡ true → SearchStandsFor s room bits found
    → m.found.place + 32 + s.rules.block_bits ≤ s.pushed
reported-fits s room m bits found was pending stood =
    let h = parts_of s room bits found stood in
    let full = whole s m was pending in
    let after : m.found.place + 32 + s.after ≡ s.pushed = subst (Ends s) was h.after_is in
    omega arith

-- what the clause of a place that is reported says
abbrev Gives : Searching → Searching → List ℕ → List Bool → List Found → Found → Type 0
Gives s s' room bits found f = SearchStandsFor s' room bits (found ++ f ∷ [])
    × ((rest : List Found) × (places s.rules bits ≡ found ++ f ∷ rest) × (length rest ≡ waiting_of s'))
    × (f.place + 32 + unwrap_or (inside_of s) 0 ≡ length bits)

-- where the search follows the codeblock that is reported, and awaits the place ahead
gives : (s s' : Searching) (room : List ℕ) (m : Awaited) (bits : List Bool) (found : List Found)
    (h : Parts s room bits found) (reported : Reported s bits found m) → HasReported s s' m
    → s'.awaited ≡ option_map (awaited_at s'.before) (first_place s'.rules
    (m.found.place + 32 + s.rules.block_bits) s'.before (drop (m.found.place + 32 + s.rules.block_bits) bits))
    → Ends s' s'.awaited → Fresh s' s'.awaited → IsRun s' bits s'.awaited → IsRecent room bits (from_of s' s'.awaited)
    → length reported.rest ≡ waiting_of s'
    → Gives s s' room bits found m.found
gives s s' room m bits found h reported t awaited ends fresh run recent many =
    let e : ℕ = m.found.place + 32 + s.rules.block_bits in
    let left = reported.left.size in
    let place = reported.ends in
    let full = reported.full in
    let states : places s.rules bits ≡ (found ++ m.found ∷ []) ++ reported.rest = reported.states
    ∙ sym (append_assoc found (m.found ∷ []) reported.rest) in
    let since = length-drop e bits in
    let size : length (take e bits) ≡ e = length-take-le e bits (omega arith) in
    let inside : unwrap_or (inside_of s) 0 ≡ s.after = inside-is s m t.awaited_was in (
      stands_of s' room bits (found ++ m.found ∷ []) record {
        prefix = take e bits;
        rest = drop e bits;
        parts = sym (take-append-drop e bits);
        found_first =
            ap (λ r. take (length (found ++ m.found ∷ [])) (places r bits)) t.rules
            ∙ ap (take (length (found ++ m.found ∷ []))) states
            ∙ take_at (found ++ m.found ∷ []) reported.rest (length (found ++ m.found ∷ [])) refl;
        ends = ap (λ r. end_of r (found ++ m.found ∷ [])) t.rules ∙ end-last s.rules found m.found ∙ sym size;
        start_is = t.start ∙ sym size;
        pushed_is = t.pushed ∙ h.pushed_is;
        before_is = t.before ∙ ap Some (sym reported.next) ∙ sym (before-last found m.found None);
        received_is = t.received ∙ h.received_is;
        awaited_is =
            awaited ∙ ap (λ n. option_map (awaited_at s'.before) (first_place s'.rules n s'.before (drop e bits)))
            (sym size);
        after_is = ends;
        fresh = fresh;
        run = run;
        sized = h.sized ∙ ap verify_bits (sym t.rules);
        recent = recent;
      },
      (reported.rest, reported.states, many),
      ap (λ n. m.found.place + 32 + n) inside ∙ reported.ends,
    )

-- no codeblock follows it
pub reported_last : (s s' : Searching) (room : List ℕ) (m : Awaited) → is_pending s ≡ true → HasReported s s' m
    → s.after - s.rules.block_bits < 32 → s'.awaited ≡ None → s'.after ≡ 0
    → (bits : List Bool) (found : List Found) → SearchStandsFor s room bits found → Gives s s' room bits found m.found
reported_last s s' room m pending t short free fresh bits found stood =
    let h = parts_of s room bits found stood in
    let reported = reported-of s room bits found h m t.awaited_was pending in
    let size = reported.left.size in
    let left : List Bool = drop (m.found.place + 32 + s.rules.block_bits) bits in
    let none_left : length left ≡ 0 = empty reported.left in
    let nothing : left ≡ [] = nil_from_length left none_left in
    let start = t.start in
    let pushed = t.pushed in
    let given = h.pushed_is in
    let ends = reported.ends in
    let zero_left : s.after - s.rules.block_bits ≡ 0 = omega arith in
    let from : from_of s' s'.awaited ≡ s'.start = ap (from_of s') free in
    gives s s' room m bits found h reported t
    (free ∙ ap (option_map (awaited_at s'.before)) (sym (ap
    (first_place s'.rules (m.found.place + 32 + s.rules.block_bits) s'.before) nothing
    ∙ first_place-nil s'.rules (m.found.place + 32 + s.rules.block_bits) s'.before)))
    (subst (Ends s') (sym free) tt) (subst (Fresh s') (sym free) fresh) (subst (IsRun s' bits) (sym free) tt)
    (λ i low within held. absurd (omega arith))
    (reported.many ∙ div-less (s.after - s.rules.block_bits) (32 + s.rules.block_bits) (omega arith)
    ∙ sym (ap (λ (o : Option Awaited). option_map_or (λ count. (count + 32) / (32 + s'.rules.block_bits))
    (option_map (λ _. s'.after) o) 0) free))
  where
    empty : Left s bits m → length (drop (m.found.place + 32 + s.rules.block_bits) bits) ≡ 0
    empty left = go left.size left.run
      where
        go : length (drop (m.found.place + 32 + s.rules.block_bits) bits) ≡ s.after - s.rules.block_bits
            → IsRunAfter s bits m
            → length (drop (m.found.place + 32 + s.rules.block_bits) bits) ≡ 0
        go size (inl none_left) = none_left
        go size (inr (count, size', match, held)) = absurd (omega arith)

-- the search goes on from a state with the same bits
pub recalls-same : (s now : Searching) (room : List ℕ) (bits : List Bool) (from : ℕ) → now.pushed ≡ s.pushed
    → now.received ≡ s.received → now.rules ≡ s.rules → Recalls s room bits from → Recalls now room bits from
recalls-same s now room bits from pushed received rules r =
    record {
      pushed = pushed ∙ r.pushed;
      received = received ∙ r.received;
      sized = r.sized ∙ ap verify_bits (sym rules);
      recent = r.recent;
    }

-- no more bits follow a marker than verify its place
most-after : (count size after more : ℕ) → after ≤ inside_by count size → size ≤ after
    → after - size ≡ more * (32 + size) + 32 → more * (32 + size) ≤ count * (32 + size)
most-after zero size after more most full left = absurd (omega arith)
most-after (suc count) size after more most full left = omega arith

-- codeblocks follow it that were verified with it
pub reported_next : (s s' : Searching) (room : List ℕ) (m a : Awaited) (received : ℕ) → is_pending s ≡ true
    → HasReported s s' m → s.after ≤ inside_by s.rules.verify s.rules.block_bits
    → 32 ≤ s.after - s.rules.block_bits → s'.awaited ≡ Some a → s'.after ≡ s.after - s.rules.block_bits - 32
    → (bits : List Bool) (found : List Found)
    → ((from : ℕ) → Recalls s room bits from → (s'.after ≡ 0) ⊎ ((32 ≤ s'.after) × (s'.after ≤ verify_bits s.rules))
    → from + 32 + s'.after ≤ length bits
    → received ≡ number_of (take 32 (drop (length bits - (32 + s'.after)) bits)))
    → ((l : List Bool) → length l ≡ 32 → received ≡ number_of l
    → a ≡ awaited_at s'.before (found_at s'.start false m.found.inverted l))
    → SearchStandsFor s room bits found → Gives s s' room bits found m.found
reported_next s s' room m a received pending t most long awaits after bits found received_all matches stood =
    let h = parts_of s room bits found stood in
    let reported = reported-of s room bits found h m t.awaited_was pending in
    go h reported reported.left.size reported.left.run
  where
    go : Parts s room bits found → Reported s bits found m → length
        (drop (m.found.place + 32 + s.rules.block_bits) bits) ≡ s.after - s.rules.block_bits
        → IsRunAfter s bits m
        → Gives s s' room bits found m.found
    go h reported size (inl none_left) = absurd (omega arith)
    go h reported size (inr (count, size', match, held)) =
        let e : ℕ = m.found.place + 32 + s.rules.block_bits in
        let left : List Bool = drop e bits in
        let l : List Bool = take 32 left in
        let full = reported.full in
        let ends = reported.ends in
        let pushed = t.pushed in
        let given = h.pushed_is in
        let start = t.start in
        let since : s'.after ≡ count * (32 + s.rules.block_bits) = omega arith in
        let there : length bits - (32 + s'.after) ≡ e = omega arith in
        let few : count * (32 + s.rules.block_bits) ≤ verify_bits s.rules =
        most-after s.rules.verify s.rules.block_bits s.after count most full (omega arith) in
        let back : (s'.after ≡ 0) ⊎ ((32 ≤ s'.after) × (s'.after ≤ verify_bits s.rules)) =
        subst (λ (n : ℕ). (n ≡ 0) ⊎ ((32 ≤ n) × (n ≤ verify_bits s.rules))) (sym since)
        (none-or count s.rules.block_bits (verify_bits s.rules) few) in
        let more : nat_le s.after s.rules.block_bits ≡ false = grind (arith, nat_tests) in
        let from : from_of s s.awaited ≡ m.found.place = ap (from_of s) t.awaited_was
        ∙ ap (λ c. cond c s.pushed m.found.place) more in
        let recent : IsRecent room bits m.found.place = subst (IsRecent room bits) from h.recent in
        let size-l : length l ≡ 32 = length-take-le 32 left (omega arith) in
        let received_is : received ≡ number_of l =
        received_all m.found.place (record {
          pushed = h.pushed_is;
          received = h.received_is
              ∙ ap (λ n. n % 2 ^ 32) (sym (number-value bits));
          sized = h.sized;
          recent = recent;
        }) back (omega arith)
        ∙ ap (λ n. number_of (take 32 (drop n bits))) there in
        let same : wrong_bits m.found.inverted left ≡ wrong_bits m.found.inverted l =
        ap (wrong_bits m.found.inverted) (sym (take-append-drop 32 left))
        ∙ wrong_bits-append m.found.inverted l (drop 32 left) (omega arith) in
        let a_is : a ≡ awaited_at s'.before (found_at s'.start false m.found.inverted l) =
        matches l size-l received_is in
        let ahead : first_place s'.rules e s'.before left ≡ Some (found_at s'.start false m.found.inverted l) =
        (λ i. first_place (t.rules i) e (t.before i) left)
        ∙ first-here s.rules e m.next left (found_at e false m.found.inverted left) (omega arith)
        (ap (place_by s.rules e (Some m.next) left) match)
        ∙ (λ i. Some (record {
          place = sym t.start i;
          distance = same i;
          bridged = false;
          inverted = m.found.inverted;
        })) in
        let place : a.found.place ≡ s'.start = ap (λ (v : Awaited). v.found.place) a_is in
        let polarity : a.found.inverted ≡ m.found.inverted = ap (λ (v : Awaited). v.found.inverted) a_is in
        let at : a.found.place ≡ e = place ∙ t.start in
        let ends' : a.found.place + 32 + s'.after ≡ s'.pushed = omega arith in
        let run : IsRun s' bits (Some a) = inr (
          count,
          since ∙ ap (λ (r : Rules). count * (32 + r.block_bits)) (sym t.rules),
          (λ i. are_verified (t.rules i) (polarity i) count (drop (at i) bits)) ∙ held,
        ) in
        let later : m.found.place ≤ a.found.place = omega arith in
        let there' : m.found.place ≤ s'.pushed = omega arith in
        gives s s' room m bits found h reported t
        (awaits ∙ ap Some a_is ∙ ap (option_map (awaited_at s'.before)) (sym ahead))
        (subst (Ends s') (sym awaits) ends') (subst (Fresh s') (sym awaits) tt) (subst (IsRun s' bits) (sym awaits) run)
        (subst (λ (o : Option Awaited). IsRecent room bits (from_of s' o)) (sym awaits)
        (recent-from s' a room bits m.found.place there' later recent))
        (reported.many ∙ ap (λ n. n / (32 + s.rules.block_bits)) (omega arith)
        ∙ ap (λ (r : Rules). (s'.after + 32) / (32 + r.block_bits)) (sym t.rules)
        ∙ sym (ap (λ (o : Option Awaited). option_map_or (λ count. (count + 32) / (32 + s'.rules.block_bits))
        (option_map (λ _. s'.after) o) 0) awaits))

pub some_awaited : (o : Option Awaited) → is_some o ≡ true → (m : Awaited) × (o ≡ Some m)
some_awaited None e = absurd (cc)
some_awaited (Some m) e = (m, refl)

pub none_awaited : (o : Option Awaited) → is_some o ≡ false → o ≡ None
none_awaited None e = refl
none_awaited (Some m) e = absurd (cc)

-- ---- the end of the bits
-- where codeblocks wait, few bits follow the last of them
pub left-pending : (s : Searching) (room : List ℕ) → is_pending s ≡ true → (bits : List Bool) (found : List Found)
    → SearchStandsFor s room bits found
    → (s.after - s.rules.block_bits) % (32 + s.rules.block_bits) ≡ length bits - end_of s.rules (places s.rules bits)
left-pending s room pending bits found stood = go s.awaited refl
  where
    go : (o : Option Awaited) → s.awaited ≡ o → (s.after - s.rules.block_bits) % (32 + s.rules.block_bits)
        ≡ length bits - end_of s.rules (places s.rules bits)
    go None e =
        let no : false ≡ true = sym
        (ap (λ (o : Option Awaited). option_map_or (λ count. nat_le s.rules.block_bits count)
        (option_map (λ _. s.after) o) false) e) ∙ pending in absurd (cc)
    go (Some m) e =
        let reported = reported-of s room bits found (parts_of s room bits found stood) m e pending in
        let full = reported.full in
        let ends = reported.ends in
        let last = reported.last in
        let rows = div-add-mod' (s.after - s.rules.block_bits) (32 + s.rules.block_bits) in
        let many = ap (λ n. n * (32 + s.rules.block_bits)) reported.many in
        let end : end_of s.rules (places s.rules bits) ≡ m.found.place + 32 + s.rules.block_bits + length
        reported.rest * (32 + s.rules.block_bits) =
        ap (end_of s.rules) reported.states ∙ sym (end_after-is s.rules (found ++ m.found ∷ reported.rest))
        ∙ end_after-append s.rules 0 found (m.found ∷ reported.rest) ∙ reported.last in
        omega arith

-- else those after the last codeblock found
pub left-after : (s : Searching) (room : List ℕ) → is_pending s ≡ false → (bits : List Bool) (found : List Found)
    → SearchStandsFor s room bits found
    → (s.pushed ≡ length bits) × (s.start ≤ s.pushed) × (s.start ≡ end_of s.rules (places s.rules bits))
left-after s room free bits found stood =
    let h = parts_of s room bits found stood in
    let since = after-is s room bits found h in (
      h.pushed_is,
      omega arith,
      h.start_is ∙ sym h.ends ∙ ap (end_of s.rules)
          (sym (reported_all s room free bits found stood)),
    )

-- no more bits follow a marker than verify its place, or than a codeblock has
pub most_after : (s other : Searching) → other ≡ s → other.after ≤ inside_by other.rules.verify other.rules.block_bits
    → s.after ≤ inside_by s.rules.verify s.rules.block_bits
most_after s other same most =
    subst (λ (v : Searching). v.after ≤ inside_by v.rules.verify v.rules.block_bits) same most

-- and no more than a codeblock has, where none are to verify it
pub whole-once : (s : Searching) (m : Awaited) → s.awaited ≡ Some m → is_pending s ≡ true
    → s.after ≤ inside_by s.rules.verify s.rules.block_bits → s.rules.verify ≡ 0
    → s.after ≡ s.rules.block_bits
whole-once s m was pending most alone =
    let full = whole s m was pending in
    let few : s.after ≤ s.rules.block_bits =
    subst (λ (n : ℕ). s.after ≤ inside_by n s.rules.block_bits) alone most in
    omega arith

-- ---- octets
-- a place is awaited where bits follow its marker
pub some_inside : (s : Searching) → IsSome (inside_of s) → (m : Awaited) × (s.awaited ≡ Some m)
some_inside s is = go s.awaited refl
  where
    go : (o : Option Awaited) → s.awaited ≡ o → (m : Awaited) × (s.awaited ≡ Some m)
    go None e =
        let no : IsSome (option_map (λ (m : Awaited). s.after) None) =
        subst (λ (o : Option Awaited). IsSome (option_map (λ _. s.after) o)) e is in absurd (cc)
    go (Some m) e = (m, e)

pub free-of : (s : Searching) → inside_of s ≡ None → s.awaited ≡ None
free-of s is = go s.awaited refl
  where
    go : (o : Option Awaited) → s.awaited ≡ o → s.awaited ≡ None
    go None e = e
    go (Some m) e = let no : Some s.after ≡ None = sym (ap (option_map (λ _. s.after)) e) ∙ is in absurd (cc)

-- where no further markers verify a place the room is empty
pub verify-none : (rules : Rules) → rules.verify ≡ 0 → verify_bits rules ≡ 0
verify-none rules zero_verify = ap (λ n. n * (32 + rules.block_bits)) zero_verify ∙ omega arith

pub room-same : (room room' : List ℕ) → length room ≡ 0 → length room' ≡ 0 → room ≡ room'
room-same room room' empty empty' = nil_from_length room empty ∙ sym (nil_from_length room' empty')

pub first-zero : (o o' : Option ℕ) (lag : ℕ) → lag ≡ 0 → IfNone o ((unwrap_or o' 0 ≡ 0) ⊎ (o' ≡ Some lag))
    → IfNone o (unwrap_or o' 0 ≡ 0)
first-zero (Some count) o' lag zero_lag first = tt
first-zero None o' lag zero_lag (inl zero_inside) = zero_inside
first-zero None o' lag zero_lag (inr is) = ap (λ (o : Option ℕ). unwrap_or o 0) is ∙ zero_lag

pub none_few : (o : Option ℕ) (left : ℕ) → o ≡ None → IfSome o (λ count. count + left < 8)
none_few o left e = subst (λ (o : Option ℕ). IfSome o (λ count. count + left < 8)) (sym e) tt

-- one bit more, and one fewer is left
pub few_more : (o o' : Option ℕ) (left : ℕ) → 0 < left → left ≤ 8 → IfSome o (λ count. count + left < 8)
    → IfSome o (λ count. o' ≡ Some (count + 1)) → IfNone o (unwrap_or o' 0 ≡ 0)
    → IfSome o' (λ count. count + (left - 1) < 8)
few_more (Some count) o' left any most few more first =
    subst (λ (o : Option ℕ). IfSome o (λ count. count + (left - 1) < 8)) (sym more) (omega arith)
few_more None None left any most few more first = tt
few_more None (Some count) left any most few more first = omega arith

pub few_free : (s : Searching) (left : ℕ) → IfSome (inside_of s) (λ count. count + left < 8) → 8 ≤ s.rules.block_bits
    → is_pending s ≡ false
few_free s left few fits = go (inside_of s) few
  where
    go : (o : Option ℕ) → IfSome o (λ count. count + left < 8)
        → option_map_or (λ count. nat_le s.rules.block_bits count) o false ≡ false
    go None few = refl
    go (Some count) few = grind (arith, nat_tests)

pub few_less : (o : Option ℕ) (left : ℕ) → IfSome o (λ count. count + left < 8) → unwrap_or o 0 < 8
few_less None left few = omega arith
few_less (Some count) left few = omega arith
