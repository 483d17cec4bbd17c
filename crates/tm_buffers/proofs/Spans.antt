-- Bits of a list from one index on up to another.
use Rattle.std.proofs.Common.{◌≡◌, ◌==◌, ◌<◌, ◌≤◌, ◌+◌, ◌-◌, ◌*◌, ◌/◌, ◌%◌, ◌^◌, ℕ, zero, suc, Bool, false, not, get_or, List, [], ◌∷◌, ◌++◌, length, take, drop, unwrap_or, refl, sym, ap, ◌∙◌, subst, arith, Option, Some, None, IsSome, length-append, length-take, inl, inr, mul-le-mul_right}
use Rattle.std.specs.Option.{option_map_or}
use Rattle.std.proofs.lemmas.Bool.{cases_lt}
use Rattle.std.proofs.lemmas.List.{append-nil, drop-drop, get_or-map, length-map, take_all}
use Rattle.std.proofs.lemmas.Grind.{common_steps}
use Rattle.std.proofs.lemmas.Slice.{between_is}
use Rattle.std.proofs.Math.Seq.{take-add}
use Rattle.tm_base.specs.Bits.{bits_of, low_bits}
use Rattle.tm_base.proofs.Packing.{bits_of-drop, bits_of-take, length-bits_of}
use Rattle.tm_sync.specs.declared.found.Found.{Found}
use Rattle.tm_sync.specs.Places.{Rules, places, verify_bits}
use Rattle.tm_sync.specs.Searching.{Searching, SearchStandsFor, inside_of, is_pending}
use Rattle.tm_sync.proofs.Ends.{first-stays}
use Rattle.tm_sync.proofs.Given.{reported_all, reported-few}
use Rattle.tm_sync.proofs.Sliding.{bit_of}
use Rattle.tm_buffers.specs.Searching.{NoneSooner, Takes, bits_in, span}

span-none : {T : Type 0} (at to : ℕ) (items : List T) → to ≤ at → span at to items ≡ []
span-none at to items before =
    ap (λ n. take n (drop at items)) (let none : to - at ≡ 0 = omega (arith, before) in none)

-- a span goes on
span-more : {T : Type 0} (from at to : ℕ) (items : List T) → from ≤ at → at ≤ to
    → span from to items ≡ span from at items ++ span at to items
span-more from at to items first second =
    let size : to - from ≡ (at - from) + (to - at) = omega (arith, first, second) in
    let there : from + (at - from) ≡ at = omega (arith, first) in
    ap (λ n. take n (drop from items)) size ∙ take-add (at - from) (to - at) (drop from items)
    ∙ ap (λ l. take (at - from) (drop from items) ++ take (to - at) l)
    (drop-drop (at - from) from items ∙ ap (λ n. drop n items) there)

one-of : {T : Type 0} (at : ℕ) (items : List T) (item : T) → at ≤ length items
    → take (at + 1) items ≡ take at items ++ item ∷ [] → span at (at + 1) items ≡ item ∷ []
one-of at items item within is = grind (arith, common_steps, between_is)

-- a number for a bit
pub span-number : (at : ℕ) (numbers : List ℕ) → at < length numbers
    → span at (at + 1) (bits_in numbers) ≡ not (get_or numbers at 0 == 0) ∷ []
span-number at numbers below =
    let size = length-map numbers (λ number. not (number == 0)) in
    let bit = get_or-map (λ number. not (number == 0)) numbers at 0 false below in
    grind (arith, common_steps, one-of, size, bit)

-- a bit of an octet
bit-at : (octets : List ℕ) (at : ℕ) → at < 8 * length octets
    → get_or (bits_of octets) at false ≡ bit_of (7 - at % 8) (get_or octets (at / 8) 0)
unfolding low_bits
bit-at [] at below = absurd (omega arith)
bit-at (x ∷ octets) zero below = refl
bit-at (x ∷ octets) (suc zero) below = refl
bit-at (x ∷ octets) (suc (suc zero)) below = refl
bit-at (x ∷ octets) (suc (suc (suc zero))) below = refl
bit-at (x ∷ octets) (suc (suc (suc (suc zero)))) below = refl
bit-at (x ∷ octets) (suc (suc (suc (suc (suc zero))))) below = refl
bit-at (x ∷ octets) (suc (suc (suc (suc (suc (suc zero)))))) below = refl
bit-at (x ∷ octets) (suc (suc (suc (suc (suc (suc (suc zero))))))) below = refl
bit-at (x ∷ octets) (suc (suc (suc (suc (suc (suc (suc (suc at)))))))) below =
    let place : suc (at / 8) ≡ suc (suc (suc (suc (suc (suc (suc (suc at))))))) / 8 = omega arith in
    let digit : at % 8 ≡ suc (suc (suc (suc (suc (suc (suc (suc at))))))) % 8 = omega arith in
    bit-at octets at (omega arith) ∙ (λ i. bit_of (7 - digit i) (get_or (x ∷ octets) (place i) 0))

pub span-bit : (at : ℕ) (octets : List ℕ) → at < 8 * length octets
    → span at (at + 1) (bits_of octets) ≡ bit_of (7 - at % 8) (get_or octets (at / 8) 0) ∷ []
span-bit at octets below = grind (arith, common_steps, one-of, length-bits_of octets, bit-at octets at below)

-- the bits of whole octets
pub span-octets : (at first whole : ℕ) (octets : List ℕ) → at ≡ 8 * first
    → span at (at + 8 * whole) (bits_of octets) ≡ bits_of (take whole (drop first octets))
span-octets at first whole octets is =
    let size : at + 8 * whole - at ≡ 8 * whole = omega arith in
    grind (arith, common_steps, bits_of-drop first octets, bits_of-take whole (drop first octets))

-- ---- bits that are taken one after another

pub takes-more : (a b c : Searching) (room middle last : List ℕ) (bits : List Bool) (from at to : ℕ)
    → Takes a b room middle bits from at → Takes b c middle last bits at to → Takes a c room last bits from to
takes-more a b c room middle last bits from at to first second = record {
  rules = second.rules ∙ first.rules;
  order = omega (arith, first.order, second.order);
  goes_on = λ given found few stood.
      let before = given ++ span from at bits in
      let p = first.goes_on given found (omega (arith, few, second.order)) stood in
      let q = second.goes_on before found (omega (
        arith,
        few,
        first.order,
        second.order,
        length-append given (span from at bits),
        length-take (at - from) (drop from bits),
      )) p.0 in
      let joined : (n : ℕ) → at ≤ n → before ++ span at n bits ≡ given ++ span from n bits = λ n late.
      grind (arith, common_steps, span-more from at n bits first.order late) in (
        subst (λ l. SearchStandsFor c last l found) (joined to second.order) q.0,
        λ n low below. elim (cases_lt n at) as (λ _. places a.rules (given ++ span from n bits) ≡ found) [
          | inl early ↦ p.1 n low early
          | inr late ↦ ap (places a.rules) (sym (joined n late))
              ∙ ap (λ (r : Rules). places r (before ++ span at n bits)) (sym first.rules) ∙ q.1 n late below
        ],
      );
}

-- one bit is taken
pub takes-bit : (s now : Searching) (room room_now : List ℕ) (bits : List Bool) (at : ℕ) (bit : Bool)
    → is_pending s ≡ false → now.rules ≡ s.rules → span at (at + 1) bits ≡ bit ∷ []
    → ((given : List Bool) (found : List Found) → length given < 2 ^ 63 → SearchStandsFor s room given found
    → SearchStandsFor now room_now (given ++ bit ∷ []) found)
    → Takes s now room room_now bits at (at + 1)
takes-bit s now room room_now bits at bit free rules is push = record {
  rules = rules;
  order = omega arith;
  goes_on = λ given found few stood. (
    subst (λ l. SearchStandsFor now room_now (given ++ l) found) (sym is)
        (push given found (omega (arith, few)) stood),
    λ n low below. ap (λ l. places s.rules (given ++ l)) (span-none at n bits (omega (arith, below)))
        ∙ ap (places s.rules) (append-nil given) ∙ reported_all s room free given found stood,
  );
}

begun-inside : (inside : Option ℕ) (none : ℕ) → IsSome inside
    → option_map_or (λ count. 32 + count) inside none ≡ 32 + unwrap_or inside 0
begun-inside None none is = absurd (cc)
begun-inside (Some count) none is = refl

-- bits are taken inside a codeblock, which lacks as many or more
pub sooner-inside : (search : Searching) (room : List ℕ) (given items : List Bool)
    (found : List Found) (at to : ℕ) → IsSome (inside_of search)
    → unwrap_or (inside_of search) 0 + (to - at) ≤ search.rules.block_bits
    → SearchStandsFor search room given found → NoneSooner search.rules given found items at to
sooner-inside search room given items found at to inside fits stands n low below =
    let all = places search.rules (given ++ span at n items) in
    let few = reported-few search room given (span at n items) found stands in
    let short = length-take (n - at) (drop at items) in
    let begun = begun-inside (inside_of search) (31 + verify_bits search.rules) inside in
    let none : length all ≤ length found = elim (cases_lt (length found) (length all)) as
    (λ _. length all ≤ length found) [
      | inl many ↦ (
          let one : length found + 1 ≤ length all = omega (arith, many) in
          let size = mul-le-mul_right (32 + search.rules.block_bits) one in
          absurd (omega (arith, size, few, short, begun, fits, low, below))
          )
      | inr there ↦ there
    ] in
    sym (take_all (length found) all none)
    ∙ first-stays search.rules given (span at n items) found stands.found_first
