-- Origins in a room, and how far they reach back.
use Rattle.std.proofs.Common.{◌≡◌, ◌==◌, ◌<◌, ◌≤◌, ◌+◌, ◌*◌, ℕ, zero, suc, Bool, true, false, if◌then◌else◌, nat_le, List, [], ◌∷◌, ◌++◌, length, take, drop, get_or, set, inl, inr, refl, sym, ap, ◌∙◌, arith}
use Rattle.std.proofs.Math.Nat.{sub-zero, suc-mul, zero-mul}
use Rattle.std.proofs.lemmas.List.{length-take-le, take_at}
use Rattle.std.proofs.lemmas.Bool.{cases_lt, eqb-true, le-leb, leb-false, leb-true}
use Rattle.std.specs.List.{copy_within}
use Rattle.tm_conv.specs.declared.rates.Rate.{Rate}
use Rattle.tm_conv.specs.Path.{steps_size}
use Rattle.tm_channel.specs.Origins.{AreSpaced, is_newest, origin_at}
use Rattle.tm_channel.specs.declared.origins.Origin.{Origin}

-- ---- in a room

-- those that are there are moved up, and one is put before them
pub put-first : (items : List Origin) (count : ℕ) (origin : Origin) → count + 1 ≤ length items
    → take (count + 1) (set (copy_within items 0 count 1) 0 origin) ≡ origin ∷ take count items
put-first [] count origin room = absurd (omega (arith, room))
put-first (x ∷ items) count origin room =
    let next : count + 1 ≡ suc count = omega arith in
    ap (λ n. take n (set (copy_within (x ∷ items) 0 count 1) 0 origin)) next
    ∙ ap (λ n. origin ∷ take count (take n (x ∷ items) ++ drop (1 + n) (x ∷ items))) (sub-zero count)
    ∙ ap (λ l. origin ∷ l) (take_at (take count (x ∷ items)) (drop (1 + count) (x ∷ items)) count
    (length-take-le count (x ∷ items) (omega (arith, room))))

-- ---- the newest one

-- none is there
pub newest-none : (octets : ℕ) (origins : List Origin) → length origins ≡ 0
    → false ≡ is_newest octets origins
newest-none octets [] none = refl
newest-none octets (origin ∷ origins) none = absurd (omega (arith, none))

pub newest-is : (octets : ℕ) (origins : List Origin) (d : Origin) → 0 < length origins
    → ((get_or origins 0 d).octets == octets) ≡ is_newest octets origins
newest-is octets [] d some = absurd (omega (arith, some))
newest-is octets (origin ∷ origins) d some = refl

-- bits from there on have its octets
pub newest-holds : (octets keep to n : ℕ) (origins : List Origin)
    → is_newest octets origins ≡ true → AreSpaced keep to origins → to ≤ n
    → origin_at origins n ≡ octets
newest-holds octets keep to n [] newest spaced after = absurd cc
newest-holds octets keep to n (origin ∷ origins) newest spaced after =
    let before = spaced.0 in
    ap (λ (t : Bool). if t then origin.octets else origin_at origins n)
    (le-leb origin.first n (omega (arith, before, after)))
    ∙ eqb-true origin.octets octets newest

-- ---- how far they reach back

-- With windows between them that keep so many bits, some of the newest hold for all bits that are
-- as many windows before where they end.
pub reach-back : (keep to count n : ℕ) (origins : List Origin) → AreSpaced keep to origins → n < to
    → to ≤ n + count * keep → origin_at (take count origins) n ≡ origin_at origins n
reach-back keep to zero n origins spaced below far = absurd (omega (arith, below, far, zero-mul keep))
reach-back keep to (suc count) n [] spaced below far = refl
reach-back keep to (suc count) n (origin ∷ origins) spaced below far =
    let apart = spaced.0 in
    go (nat_le origin.first n) refl (λ after. reach-back keep origin.first count n origins spaced.1
    after (omega (arith, apart, far, suc-mul count keep)))
  where
    go : (here : Bool) → nat_le origin.first n ≡ here
        → (n < origin.first → origin_at (take count origins) n ≡ origin_at origins n)
        → (if here then origin.octets else origin_at (take count origins) n)
        ≡ (if here then origin.octets else origin_at origins n)
    go true is older = refl
    go false is older = older (leb-false origin.first n is)

-- fewer are spaced too, and up to a later bit
pub spaced-take : (keep to count : ℕ) (origins : List Origin) → AreSpaced keep to origins
    → AreSpaced keep to (take count origins)
spaced-take keep to zero origins spaced = tt
spaced-take keep to (suc count) [] spaced = tt
spaced-take keep to (suc count) (origin ∷ origins) spaced =
    (spaced.0, spaced-take keep origin.first count origins spaced.1)

pub spaced-later : (keep to later : ℕ) (origins : List Origin) → to ≤ later
    → AreSpaced keep to origins → AreSpaced keep later origins
spaced-later keep to later [] le spaced = tt
spaced-later keep to later (origin ∷ origins) le spaced =
    (let before = spaced.0 in omega (arith, le, before), spaced.1)

-- ---- an origin is noted

abbrev pub origins_noted : (first octets size : ℕ) → List Origin → List Origin
origins_noted first octets size origins =
    if is_newest octets origins then origins
    else take size (record { first = first; octets = octets } ∷ origins)

-- with it the symbols of all bits are known that are not passed
pub record Known (rate : Rate) (keep passed first : ℕ) (now : ℕ → ℕ) (origins : List Origin)
    : Type 0 where
  pub symbols : (n : ℕ) → passed ≤ n → origin_at origins n + steps_size rate 0 n ≡ now n
  pub spaced : (to : ℕ) → first + keep ≤ to → AreSpaced keep to origins

-- where the room reaches back over all bits that are not passed
pub noted-known : (rate : Rate) (keep size first octets passed : ℕ) (origins : List Origin)
    (at now : ℕ → ℕ) → AreSpaced keep first origins
    → ((n : ℕ) → passed ≤ n → n < first → origin_at origins n + steps_size rate 0 n ≡ at n)
    → passed ≤ first → first + keep < passed + size * keep
    → ((n : ℕ) → n < first → now n ≡ at n)
    → ((n : ℕ) → first ≤ n → now n ≡ octets + steps_size rate 0 n)
    → Known rate keep passed first now (origins_noted first octets size origins)
noted-known rate keep size first octets passed origins at now spaced known left far before after =
    go (is_newest octets origins) refl
  where
    newest : Origin
    newest = record { first = first; octets = octets }

    same : is_newest octets origins ≡ true → Known rate keep passed first now origins
    same is = record {
      symbols = λ n above.
          elim (cases_lt n first) as (λ _. origin_at origins n + steps_size rate 0 n ≡ now n) [
            | inl below ↦ known n above below ∙ sym (before n below)
            | inr beyond ↦ ap (λ (k : ℕ). k + steps_size rate 0 n)
                (newest-holds octets keep first n origins is spaced beyond) ∙ sym (after n beyond)
          ];
      spaced = λ to later. spaced-later keep first to origins (omega (arith, later)) spaced;
    }

    each : (count n : ℕ) → passed ≤ n → first + keep < passed + suc count * keep
        → (here : Bool) → nat_le first n ≡ here
        → (if here then octets else origin_at (take count origins) n) + steps_size rate 0 n ≡ now n
    each count n above far true is = sym (after n (leb-true first n is))
    each count n above far false is =
        let below = leb-false first n is in
        ap (λ (k : ℕ). k + steps_size rate 0 n) (reach-back keep first count n origins spaced below
        (omega (arith, far, above, suc-mul count keep)))
        ∙ known n above below ∙ sym (before n below)

    more : (size : ℕ) → first + keep < passed + size * keep
        → Known rate keep passed first now (take size (newest ∷ origins))
    more zero far = absurd (omega (arith, left, far, zero-mul keep))
    more (suc count) far = record {
      symbols = λ n above. each count n above far (nat_le first n) refl;
      spaced = λ to later. (later, spaced-take keep first count origins spaced);
    }

    go : (here : Bool) → is_newest octets origins ≡ here
        → Known rate keep passed first now (if here then origins else take size (newest ∷ origins))
    go true is = same is
    go false is = more size far
