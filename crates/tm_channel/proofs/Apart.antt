-- How many bits places take at least, where they are looked for inside codeblocks or not.
use Rattle.std.proofs.Common.{◌≡◌, ℕ, zero, suc, ◌+◌, ◌-◌, ◌*◌, ◌/◌, ◌<◌, ◌≤◌, Bool, List, [], ◌∷◌, ◌++◌, length, drop, refl, sym, ap, ◌∙◌, subst, arith, inl, inr, Option, Some, None, length-append, mul-le-mul_right}
use Rattle.std.specs.List.{AllByRecursion}
use Rattle.std.proofs.Math.Nat.{lt-div-mul-add, suc-mul}
use Rattle.std.proofs.lemmas.Bool.{cases_lt}
use Rattle.tm_sync.specs.declared.found.Columns.{Columns}
use Rattle.tm_sync.specs.declared.found.Found.{Found}
use Rattle.tm_sync.specs.Places.{Rules, places, settled_by}
use Rattle.tm_sync.specs.Rescan.{Fits, Last, Soundness, places_after, places_with, reach}
use Rattle.tm_sync.specs.PlacesInside.{AreApart}
use Rattle.tm_sync.specs.Finding.{Finding, places_left}
use Rattle.tm_sync.proofs.FewInside.{StartFrom, apart-rest, ends-rest, few-apart, few-more}
use Rattle.tm_sync.proofs.FoundInside.{apart-all}
use Rattle.tm_sync.proofs.Longer.{EndBefore, places_from-room, places-few}
use Rattle.tm_sync.proofs.Prefixes.{Rise, places_after-start, places_with-goes_on}
use Rattle.tm_sync.proofs.Rescanned.{places_after-off, places_with-off}
use Rattle.tm_config.specs.Configuration.{Configuration}
use Rattle.tm_codeblock.specs.ReceivedCodeblock.{rules_of, columns_of, places_in, sound_in}
use Rattle.tm_codeblock.proofs.PlacesIn.{fits, places_in-end, places_in-more, places_in-rise}
use Rattle.tm_channel.specs.Most.{most_found, most_found_at}
use Rattle.tm_channel.specs.Receiving.{least_bits_at}

-- ---- how many bits the places take that a search has left

-- without any inside, where the next bit may be part of a codeblock
off-room : (rules : Rules) (sound : Soundness) (at : ℕ) (last : Option Last) (bits : List Bool)
    → length (places_after rules None sound at last bits) * (32 + rules.block_bits) ≤ length bits
off-room rules sound at None bits =
    omega (
      arith,
      ap (λ fs. length fs * (32 + rules.block_bits)) (places_after-off rules sound at 0 None None bits (refl, refl)),
      places_from-room rules at 0 None bits,
    )
off-room rules sound at (Some last) bits = elim (cases_lt last.end at) [
  | inl past ↦ omega (
    arith,
    ap (λ fs. length fs * (32 + rules.block_bits))
        (places_after-off rules sound at 0 None (Some last) bits (inr (past, (refl, refl)))),
    places_from-room rules at 0 None bits,
  )
  | inr inside ↦ omega (
    arith,
    ap (λ fs. length fs * (32 + rules.block_bits))
        (places_after-off rules sound at (last.end - at) (Some last.before) (Some last) bits
        (inl (omega (arith, inside), refl))),
    places_from-room rules at (last.end - at) (Some last.before) bits,
  )
]

-- the bits of all are those of the places found, and those that are left
left-room : (rules : Rules) (columns : Option Columns) (sound : Soundness) (at : ℕ) (last : Option Last)
    (bits rest : List Bool) (found : List Found) → at + length rest ≡ length bits
    → places_with rules columns sound bits ≡ found ++ places_after rules columns sound at last rest
    → EndBefore rules (length bits) (places_with rules columns sound bits)
    → 0 < length (places_after rules columns sound at last rest)
    → least_bits_at columns (32 + rules.block_bits) (length (places_after rules columns sound at last rest))
    ≤ length rest
left-room rules None sound at last bits rest found all is ends some = off-room rules sound at last rest
left-room rules (Some columns) sound at last bits rest found all is ends some =
    elim (cases_lt (length rest) (32 + rules.block_bits + count * (gap + 1))) [
      | inl short ↦ absurd (omega (
        arith,
        some,
        few-apart rules gap (length bits) left at count
            (apart-rest gap found left (subst (AreApart gap) is (apart-all rules columns sound bits)))
            (start left (places_after-start rules (Some columns) sound at last rest))
            (ends-rest rules (length bits) found left (subst (EndBefore rules (length bits)) is ends))
            (omega (arith, all, short)),
      ))
      | inr enough ↦ enough
    ]
  where
    gap : ℕ
    gap = 32 + rules.block_bits - reach columns

    left : List Found
    left = places_after rules (Some columns) sound at last rest

    count : ℕ
    count = (length left - 1) / 2

    start : (fs : List Found) → AllByRecursion (λ f. at ≤ f.place) fs → StartFrom at fs
    start [] from = tt
    start (f ∷ fs) from = from.0

pub left-least : (c : Configuration) (s : Finding) (recent bits : List Bool) (found : List Found)
    → s.rules ≡ rules_of c → s.columns ≡ columns_of c → s.passed + length recent ≡ length bits
    → places_in c bits ≡ found ++ places_left s (sound_in c bits) recent
    → 0 < length (places_left s (sound_in c bits) recent)
    → least_bits_at (columns_of c) (32 + (rules_of c).block_bits) (length (places_left s (sound_in c bits) recent))
    ≤ length recent
left-least c s recent bits found rules columns all is some =
    subst (λ (k : Option Columns). (fs : List Found)
    → fs ≡ places_after (rules_of c) k (sound_in c bits) s.passed s.last recent
    → places_in c bits ≡ found ++ fs → 0 < length fs
    → least_bits_at (columns_of c) (32 + (rules_of c).block_bits) (length fs) ≤ length recent) (sym columns)
    (λ fs are is some. subst (λ (fs : List Found).
    least_bits_at (columns_of c) (32 + (rules_of c).block_bits) (length fs) ≤ length recent) (sym are)
    (left-room (rules_of c) (columns_of c) (sound_in c bits) s.passed s.last bits recent found all
    (is ∙ ap (λ fs. found ++ fs) are) (places_in-end c bits) (subst (λ (fs : List Found). 0 < length fs) are some)))
    (places_left s (sound_in c bits) recent)
    (ap (λ (r : Rules). places_after r s.columns (sound_in c bits) s.passed s.last recent) rules) is some

-- more places take more bits
pub least-more : (columns : Option Columns) (unit count more : ℕ) → count ≤ more
    → least_bits_at columns unit count ≤ least_bits_at columns unit more
least-more None unit count more less = mul-le-mul_right unit less
least-more (Some columns) unit count more less =
    let half : (count - 1) / 2 ≤ (more - 1) / 2 = omega (arith, less) in
    omega (arith, mul-le-mul_right (unit - reach columns + 1) half)

-- ---- how many places more bits bring

-- the bits of `verify` + 1 codeblocks with their markers settle a place that is searched for
settled-most : (verify size : ℕ) → settled_by verify size ≤ verify * (32 + size) + (32 + size)
settled-most zero size = omega arith
settled-most (suc verify) size = omega arith

few-off : (c : Configuration) (bits piece : List Bool) (most : ℕ) → length piece ≤ most
    → length (places (rules_of c) (bits ++ piece)) ≤ length (places (rules_of c) bits)
    + (most / (32 + (rules_of c).block_bits) + c.verify) + 1
few-off c bits piece most few =
    let unit = 32 + (rules_of c).block_bits in
    let whole = most / unit in
    let some : 0 < unit = omega arith in
    let short : length piece ≤ (whole + 1) * unit =
    omega (arith, few, lt-div-mul-add {a = most} {b = unit} some, suc-mul whole unit, ap (λ n. n * unit) (next whole))
    in
    omega (arith, places-few (rules_of c) bits piece (whole + 1) short)
  where
    next : (n : ℕ) → n + 1 ≡ suc n
    next n = omega arith

few-at : (c : Configuration) (columns : Option Columns) (bits piece : List Bool) (most : ℕ) → columns_of c ≡ columns
    → length piece ≤ most
    → length (places_in c (bits ++ piece)) ≤ length (places_in c bits)
    + most_found_at columns (32 + (rules_of c).block_bits) c.verify most + 1
few-at c None bits piece most off few =
    omega (arith, few-off c bits piece most few, ap length (plain bits), ap length (plain (bits ++ piece)))
  where
    plain : (bits : List Bool) → places_in c bits ≡ places (rules_of c) bits
    plain bits = ap (λ k. places_with (rules_of c) k (sound_in c bits) bits) off
        ∙ places_with-off (rules_of c) (sound_in c bits) bits
few-at c (Some columns) bits piece most on few =
    omega (
      arith,
      ap length (there (bits ++ piece)),
      ap length (places_in-more c bits piece ∙ there bits),
      ap length (places_with-goes_on (rules_of c) (Some columns) sound bits piece reaches).0,
      length-append first further,
      few-more (rules_of c) columns sound bits piece (whole + 1) reaches
          (omega (arith, few, size, length-append bits piece, settled-most c.verify (rules_of c).block_bits)),
    )
  where
    sound : Soundness
    sound = sound_in c (bits ++ piece)

    first : List Found
    first = places_with (rules_of c) (Some columns) sound bits

    further : List Found
    further = drop (length first) (places_with (rules_of c) (Some columns) sound (bits ++ piece))

    unit : ℕ
    unit = 32 + (rules_of c).block_bits

    whole : ℕ
    whole = (most + c.verify * unit) / (unit - reach columns + 1)

    reaches : reach columns ≤ (rules_of c).block_bits
    reaches = subst (Fits (rules_of c)) on (fits c)

    -- that is more than there are
    size : most + c.verify * unit < (whole + 1) * (unit - reach columns + 1)
    size =
        let some : 0 < unit - reach columns + 1 = omega arith in
        let next : whole + 1 ≡ suc whole = omega arith in
        omega (
          arith,
          lt-div-mul-add {a = most + c.verify * unit} {b = unit - reach columns + 1} some,
          suc-mul whole (unit - reach columns + 1),
          ap (λ n. n * (unit - reach columns + 1)) next,
        )

    there : (all : List Bool) → places_with (rules_of c) (columns_of c) sound all
        ≡ places_with (rules_of c) (Some columns) sound all
    there all = ap (λ k. places_with (rules_of c) k sound all) on

-- `most` bits more bring at most `most_found c most` + 1 places more
pub few-found : (c : Configuration) (bits piece : List Bool) (most : ℕ) → length piece ≤ most
    → length (places_in c (bits ++ piece)) ≤ length (places_in c bits) + most_found c most + 1
few-found c bits piece most few = few-at c (columns_of c) bits piece most refl few

-- ---- no more places than bits

rising : (fs : List Found) (low high : ℕ) → low ≤ high → AllByRecursion (λ f. low ≤ f.place) fs
    → AllByRecursion (λ f. f.place < high) fs → Rise fs → length fs + low ≤ high
rising [] low high least from below rise = omega (arith, least)
rising (f ∷ fs) low high least from below rise =
    let first = from.0 in
    let last = below.0 in
    let rest = rising fs (f.place + 1) high (omega (arith, last)) (after fs rise.0) below.1 rise.1 in
    omega (arith, first, rest)
  where
    after : (fs : List Found) → AllByRecursion (λ g. f.place < g.place) fs
        → AllByRecursion (λ g. f.place + 1 ≤ g.place) fs
    after [] later = tt
    after (g ∷ fs) later = (let one = later.0 in omega (arith, one), after fs later.1)

pub places_in-count : (c : Configuration) (bits : List Bool) → length (places_in c bits) ≤ length bits
places_in-count c bits =
    omega (
      arith,
      rising (places_in c bits) 0 (length bits) (omega arith) (all (places_in c bits))
          (below (places_in c bits) (places_in-end c bits)) (places_in-rise c bits),
    )
  where
    all : (fs : List Found) → AllByRecursion (λ f. 0 ≤ f.place) fs
    all [] = tt
    all (f ∷ fs) = (omega arith, all fs)

    below : (fs : List Found) → AllByRecursion (λ f. f.place + 32 + (rules_of c).block_bits ≤ length bits) fs
        → AllByRecursion (λ f. f.place < length bits) fs
    below [] ends = tt
    below (f ∷ fs) ends = (let one = ends.0 in omega (arith, one), below fs ends.1)
