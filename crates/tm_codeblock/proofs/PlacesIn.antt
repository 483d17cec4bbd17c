-- The places of a configuration's codeblocks, where they are looked for inside others too.
use Rattle.std.proofs.Common.{◌≡◌, ◌≤◌, ◌+◌, ◌*◌, ℕ, Bool, true, false, cond, List, ◌++◌, length, take, drop, map, Some, None, sym, ap, ◌∙◌, subst, arith, length-drop}
use Rattle.std.specs.List.{AllByRecursion}
use Rattle.std.proofs.lemmas.List.{drop-append-le, take-append-le, drop-drop}
use Rattle.tm_base.specs.Bits.{octets_of}
use Rattle.tm_base.specs.Marker.{marker_size}
use Rattle.tm_config.specs.Configuration.{Configuration, codeblock_length, correctable, data_length, is_sought}
use Rattle.tm_sync.specs.Bits.{flip, complement}
use Rattle.tm_sync.specs.Places.{complemented_place, places}
use Rattle.tm_sync.specs.Rescan.{Fits, places_with}
use Rattle.tm_sync.proofs.Complemented.{take-complement, drop-complement, in_polarity-complemented, places_with-complemented}
use Rattle.tm_sync.proofs.Prefixes.{Rise, places_after-rise, places_with-goes_on, places_with-end, places_with-sound}
use Rattle.tm_sync.proofs.Rescanned.{places_with-off}
use Rattle.tm_codeblock.specs.ReceivedCodeblock.{rules_of, unmasked, codeblock_in, received_codeblock, code_columns, columns_of, is_sound, sound_in, places_in}

-- ---- the codeblock of a place

-- it is the same in bits that go on, where all of its bits are there
pub received_codeblock-more : (c : Configuration) (bits more : List Bool) (place : ℕ)
    (inverted : Bool)
    → place + marker_size + 8 * codeblock_length c ≤ length bits
    → received_codeblock c (bits ++ more) place inverted ≡ received_codeblock c bits place inverted
received_codeblock-more c bits more place inverted whole =
    ap (codeblock_in c inverted)
    (ap (take (8 * codeblock_length c)) (drop-append-le (place + 32) bits more (omega arith))
    ∙ take-append-le (8 * codeblock_length c) (drop (place + 32) bits) more
    (omega (arith, length-drop (place + 32) bits)))

-- in the bits from a place on it stands after their marker
pub received_codeblock-rest : (c : Configuration) (bits : List Bool) (place : ℕ) (inverted : Bool)
    → received_codeblock c bits place inverted
    ≡ codeblock_in c inverted (take (8 * codeblock_length c) (drop marker_size (drop place bits)))
received_codeblock-rest c bits place inverted =
    ap (λ l. codeblock_in c inverted (take (8 * codeblock_length c) l))
    (sym (drop-drop 32 place bits))

in-complemented : (c : Configuration) (inverted : Bool) (bits : List Bool)
    → codeblock_in c (flip inverted) (complement bits) ≡ codeblock_in c inverted bits
unfolding codeblock_in
in-complemented c inverted bits = ap (λ l. unmasked c (octets_of l))
    (in_polarity-complemented inverted bits)

-- in complemented bits it is the same in the other polarity
pub received_codeblock-complemented : (c : Configuration) (bits : List Bool) (place : ℕ)
    (inverted : Bool)
    → received_codeblock c (complement bits) place (flip inverted)
    ≡ received_codeblock c bits place inverted
received_codeblock-complemented c bits place inverted =
    ap (codeblock_in c (flip inverted))
    (ap (take (8 * codeblock_length c)) (drop-complement (place + 32) bits)
    ∙ take-complement (8 * codeblock_length c) (drop (place + 32) bits))
    ∙ in-complemented c inverted (take (8 * codeblock_length c) (drop (place + 32) bits))

-- ---- whether it is sound

pub sound_in-more : (c : Configuration) (bits more : List Bool) (place : ℕ) (inverted : Bool)
    → place + marker_size + 8 * codeblock_length c ≤ length bits
    → sound_in c (bits ++ more) place inverted ≡ sound_in c bits place inverted
sound_in-more c bits more place inverted whole =
    ap (is_sound c) (received_codeblock-more c bits more place inverted whole)

pub sound_in-rest : (c : Configuration) (bits : List Bool) (place : ℕ) (inverted : Bool)
    → sound_in c bits place inverted
    ≡ is_sound c (codeblock_in c inverted
    (take (8 * codeblock_length c) (drop marker_size (drop place bits))))
sound_in-rest c bits place inverted = ap (is_sound c)
    (received_codeblock-rest c bits place inverted)

pub sound_in-complemented : (c : Configuration) (bits : List Bool) (place : ℕ) (inverted : Bool)
    → sound_in c (complement bits) place (flip inverted) ≡ sound_in c bits place inverted
sound_in-complemented c bits place inverted = ap (is_sound c)
    (received_codeblock-complemented c bits place inverted)

-- ---- the places

-- the last symbols of a codeblock's columns are part of it
pub fits : (c : Configuration) → Fits (rules_of c) (columns_of c)
fits c = go c.rescan
  where
    go : (on : Bool) → Fits (rules_of c) (cond on (Some (code_columns c)) None)
    go true =
        let e = correctable c.code in
        let size : c.depth * (data_length c + 2 * e)
        ≡ c.depth * data_length c + 2 * (c.depth * e) = grind arith in
        let bits : 8 * c.depth * e ≡ 8 * (c.depth * e) = grind arith in
        omega (arith, size, bits)
    go false = tt

by-columns : (c : Configuration) (bits : List Bool) (on : Bool) → c.rescan ≡ on
    → places_in c bits
    ≡ places_with (rules_of c) (cond on (Some (code_columns c)) None) (sound_in c bits) bits
by-columns c bits on is =
    ap (λ on. places_with (rules_of c) (cond on (Some (code_columns c)) None) (sound_in c bits)
    bits) is

-- where no search looks inside codeblocks they stand where markers are searched for
pub places_in-off : (c : Configuration) (bits : List Bool) → c.rescan ≡ false
    → places_in c bits ≡ places (rules_of c) bits
places_in-off c bits off =
    by-columns c bits false off ∙ places_with-off (rules_of c) (sound_in c bits) bits

pub places_in-on : (c : Configuration) (bits : List Bool) → c.rescan ≡ true
    → places_in c bits
    ≡ places_with (rules_of c) (Some (code_columns c)) (sound_in c bits) bits
places_in-on c bits on = by-columns c bits true on

-- bits that come after do not change what is sound
pub places_in-more : (c : Configuration) (bits more : List Bool)
    → places_in c bits ≡ places_with (rules_of c) (columns_of c) (sound_in c (bits ++ more)) bits
places_in-more c bits more =
    places_with-sound (rules_of c) (columns_of c) (sound_in c bits) (sound_in c (bits ++ more)) bits
    (λ q inverted from whole. sym (sound_in-more c bits more q inverted whole))

-- those in bits that go on are first those in the bits before
pub places_in-append : (c : Configuration) (bits more : List Bool)
    → places_in c (bits ++ more) ≡ places_in c bits ++ drop (length (places_in c bits))
    (places_in c (bits ++ more))
places_in-append c bits more =
    subst (λ fs. places_in c (bits ++ more) ≡ fs ++ drop (length fs) (places_in c (bits ++ more)))
    (sym (places_in-more c bits more))
    (places_with-goes_on (rules_of c) (columns_of c) (sound_in c (bits ++ more)) bits more
    (fits c)).0

-- each codeblock is whole
pub places_in-end : (c : Configuration) (bits : List Bool)
    → AllByRecursion (λ f. f.place + marker_size + 8 * codeblock_length c ≤ length bits)
    (places_in c bits)
places_in-end c bits = places_with-end (rules_of c) (columns_of c) (sound_in c bits) bits

-- each stands before all further ones
pub places_in-rise : (c : Configuration) (bits : List Bool) → Rise (places_in c bits)
places_in-rise c bits = places_after-rise (rules_of c) (columns_of c) (sound_in c bits) 0 None bits

-- with either polarity, those of the complemented bits are the same ones complemented
pub places_in-complemented : (c : Configuration) (bits : List Bool) → is_sought c.polarity ≡ true
    → c.tolerance ≤ 15
    → places_in c (complement bits) ≡ map complemented_place (places_in c bits)
places_in-complemented c bits either few =
    places_with-complemented (rules_of c) (columns_of c) (sound_in c bits)
    (sound_in c (complement bits)) bits either few (sound_in-complemented c bits)
