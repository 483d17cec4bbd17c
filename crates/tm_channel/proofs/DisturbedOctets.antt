-- The octets of disturbed units meet what is asked of them.
use Rattle.std.proofs.Common.{◌≡◌, ◌<◌, ◌≤◌, ◌+◌, ◌-◌, ℕ, zero, suc, Bool, true, false, cond, List, [], ◌∷◌, length, drop, replicate, Option, None, Some, is_none, refl, sym, ap, ◌∙◌, subst, arith, inl, inr}
use Rattle.std.proofs.lemmas.List.{drop-drop}
use Rattle.std.proofs.lemmas.List.Elements.{All-cons, All-nil}
use Rattle.tm_base.specs.Bits.{bits_of, low_bits}
use Rattle.tm_config.specs.Accepted.{IsAccepted}
use Rattle.tm_inner.specs.Inner.{Inner}
use Rattle.tm_inner.specs.Phase.{IsChosen}
use Rattle.tm_gf256.proofs.Below.{first_of_cond, second_of_cond}
use Rattle.tm_rs_code.specs.Code.{AreElements, IsSystematic, root}
use Rattle.tm_rs_code.proofs.Register.{value_at-zeros}
use Rattle.tm_rs_code.proofs.Systematic.{systematic_only}
use Rattle.tm_sync.specs.Bits.{complement, marker_bits}
use Rattle.tm_sync.specs.declared.found.Before.{Before}
use Rattle.tm_sync.specs.declared.found.Found.{Found}
use Rattle.tm_sync.specs.Places.{match_of, are_verified, wrong_bits}
use Rattle.tm_sync.specs.Marked.{Entry, joined, HasNoMarker, IsMarked}
use Rattle.tm_sync.specs.PlacesInside.{HasNoneInside}
use Rattle.tm_sync.specs.Rescan.{may_bridge}
use Rattle.tm_codeblock.specs.Cadu.{coded_octets, codeblock_of}
use Rattle.tm_codeblock.specs.ReceivedCodeblock.{rules_of, code_columns, codeblock_in, received_columns, sound_in}
use Rattle.tm_channel.specs.SentStream.{AreNear, AreWithin, IsFrame, IsNear, IsSent, StandAlone, entries_of, sent_columns, unit_places}
use Rattle.tm_channel.specs.SoundCodeblocks.{IsSoundAt}
use Rattle.tm_channel.specs.Disturbed.{link, octets, frame, units, last}
use Rattle.tm_channel.proofs.SoundItems.{sound-near}

pub accepted : IsAccepted link
accepted = record {
  some_depth = omega arith;
  depth = omega arith;
  no_depth = λ none. refl;
  whole = refl;
  some_data = omega arith;
  data_fits = omega arith;
  tolerance = omega arith;
  repair = omega arith;
  skip = omega arith;
  some_workers = omega arith;
  workers = omega arith;
  some_limit = omega arith;
  limit = omega arith;
  fly = omega arith;
  some_keep = omega arith;
  keep = omega arith;
  ahead = omega arith;
  some_batch = omega arith;
  batch = omega arith;
  verify = omega arith;
}

pub phase-given : IsChosen link octets None
phase-given = refl

pub inner-bits : Inner link 0 octets (bits_of octets)
inner-bits = record { blocks = []; left = 0; are_blocks = (refl, refl); are_bits = refl }

-- ---- the units

no-gap : (before : Option Before) (bits : List Bool) → HasNoMarker (rules_of link) before [] bits
no-gap before bits q below = absurd (omega arith)

inverted_entry : List Bool → Entry
inverted_entry gap = record { gap = gap; marker = complement marker_bits; block = replicate 136 true }

one-gap : (before : Before) → HasNoMarker (rules_of link) (Some before) (true ∷ [])
    (joined (inverted_entry (true ∷ []) ∷ inverted_entry [] ∷ []) last)
unfolding inverted_entry match_of wrong_bits low_bits
one-gap before zero below room = refl
one-gap before (suc q) below room = absurd (omega (arith, below))

last-gap : (before : Option Before) → HasNoMarker (rules_of link) before last last
last-gap before q below room = absurd (omega (arith, room))

marked : IsMarked (rules_of link) (bits_of octets) (entries_of units) last
unfolding inverted_entry match_of are_verified wrong_bits low_bits
marked = record {
  parts = refl;
  are_entries = (
    record {
      marker = refl;
      block = refl;
      gap = no-gap None (joined (entries_of units) last);
      waits = tt;
      bridged = tt;
      verified = refl;
    },
    (
      record {
        marker = refl;
        block = refl;
        gap = λ q below. absurd (omega (arith, below));
        waits = tt;
        bridged = tt;
        verified = refl;
      },
      (
        record {
          marker = refl;
          block = refl;
          gap = λ q below. absurd (omega (arith, below));
          waits = tt;
          bridged = (refl, omega arith);
          verified = refl;
        },
        (
          record {
            marker = refl;
            block = refl;
            gap = one-gap _;
            waits = inl (omega arith);
            bridged = tt;
            verified = refl;
          },
          (
            record {
              marker = refl;
              block = refl;
              gap = λ q below. absurd (omega (arith, below));
              waits = tt;
              bridged = tt;
              verified = refl;
            },
            (
              last-gap _,
              inr (omega arith),
            ),
          ),
        ),
      ),
    ),
  );
}

is-frame : IsFrame link frame
is-frame = (refl, All-cons (λ octet. octet < 256) 0 [] (omega arith) (All-nil (λ octet. octet < 256)))

-- ---- no marker stands inside a unit

-- at none of the first `n` bits 32 bits match
none_match : ℕ → List Bool → Bool
none_match zero bits = true
none_match (suc n) [] = false
none_match (suc n) (b ∷ bits) = cond (is_none (match_of (rules_of link) (b ∷ bits))) (none_match n bits) false

none-is : (match : Option Bool) → is_none match ≡ true → match ≡ None
none-is None is = refl
none-is (Some inverted) is = absurd cc

none-at : (n k : ℕ) (bits : List Bool) → none_match n bits ≡ true → k < n → match_of (rules_of link) (drop k bits) ≡ None
unfolding none_match
none-at zero k bits none below = absurd (omega arith)
none-at (suc n) k [] none below = absurd cc
none-at (suc n) zero (b ∷ bits) none below =
    none-is (match_of (rules_of link) (b ∷ bits))
    (first_of_cond (is_none (match_of (rules_of link) (b ∷ bits))) (none_match n bits) none)
none-at (suc n) (suc k) (b ∷ bits) none below =
    none-at n k bits
    (second_of_cond (is_none (match_of (rules_of link) (b ∷ bits))) (none_match n bits) none) (omega arith)

count : length (bits_of octets) ≡ 848
unfolding low_bits
count = refl

none-inside : (f : Found) (from n : ℕ) → from ≡ f.place + 1 → none_match n (drop from (bits_of octets)) ≡ true
    → ((at : ℕ) → at < f.place + 168 → at + 168 ≤ 848 → at < from + n)
    → HasNoneInside (rules_of link) (code_columns link) (sound_in link (bits_of octets)) (bits_of octets) f
none-inside f from n begins none room = λ at inverted it.
    let after : from ≤ at = omega (arith, it.after) in
    let within : at < from + n = room at (omega (arith, it.before)) (omega (arith, it.room, count)) in
    let is : from + (at - from) ≡ at = omega arith in
    let no : match_of (rules_of link) (drop at (bits_of octets)) ≡ None =
    ap (λ k. match_of (rules_of link) (drop k (bits_of octets))) (sym is)
    ∙ ap (match_of (rules_of link)) (sym (drop-drop (at - from) from (bits_of octets)))
    ∙ none-at n (at - from) (drop from (bits_of octets)) none (omega arith) in
    let clash : None ≡ Some inverted = sym no ∙ it.matches in cc

none-0 : none_match 167 (drop 1 (bits_of octets)) ≡ true
unfolding none_match match_of wrong_bits low_bits
none-0 = refl

none-168 : none_match 167 (drop 169 (bits_of octets)) ≡ true
unfolding none_match match_of wrong_bits low_bits
none-168 = refl

none-336 : none_match 167 (drop 337 (bits_of octets)) ≡ true
unfolding none_match match_of wrong_bits low_bits
none-336 = refl

none-505 : none_match 167 (drop 506 (bits_of octets)) ≡ true
unfolding none_match match_of wrong_bits low_bits
none-505 = refl

none-673 : none_match 7 (drop 674 (bits_of octets)) ≡ true
unfolding none_match match_of wrong_bits low_bits
none-673 = refl

pub places-are : unit_places link units ≡ record { place = 0; distance = 1; bridged = false; inverted = false }
    ∷ record { place = 168; distance = 0; bridged = false; inverted = false }
    ∷ record { place = 336; distance = 19; bridged = true; inverted = false }
    ∷ record { place = 505; distance = 0; bridged = false; inverted = true }
    ∷ record { place = 673; distance = 0; bridged = false; inverted = true } ∷ []
unfolding match_of wrong_bits low_bits
places-are = refl

may-bridge : may_bridge (rules_of link) (code_columns link) false (drop 336 (bits_of octets)) ≡ true
unfolding match_of wrong_bits low_bits
may-bridge = refl

alone : StandAlone link (bits_of octets) (unit_places link units)
alone =
    subst (StandAlone link (bits_of octets)) (sym places-are) (
      (λ no. absurd cc, (λ no. absurd cc, (λ _. may-bridge, (λ no. absurd cc, (λ no. absurd cc, tt))))),
      (
        none-inside _ 1 167 refl none-0 (λ at before room. omega arith),
        (
          none-inside _ 169 167 refl none-168 (λ at before room. omega arith),
          (
            none-inside _ 337 167 refl none-336 (λ at before room. omega arith),
            (
              none-inside _ 506 167 refl none-505 (λ at before room. omega arith),
              (
                none-inside _ 674 7 refl none-673 (λ at before room. omega arith),
                tt,
              ),
            ),
          ),
        ),
      ),
    )

pub units-sent : IsSent link (bits_of octets) units last
units-sent = record {
  marked = marked;
  frames = (is-frame, (is-frame, (is-frame, (is-frame, (is-frame, tt)))));
  alone = alone;
}

-- ---- the columns

zeros-systematic : IsSystematic 8 frame (replicate 17 0)
zeros-systematic = record {
  elements = small 17;
  codeword = λ k below. value_at-zeros 17 (root 8 k);
  size = refl;
  begins = refl;
}
  where
    small : (n : ℕ) → AreElements (replicate n 0)
    small zero = tt
    small (suc n) = (omega arith, small n)

zeros-sent : codeblock_of link frame ≡ replicate 17 0
unfolding codeblock_of coded_octets
zeros-sent = rw (sym (systematic_only 8 frame (replicate 17 0) (omega arith) zeros-systematic)) refl

columns-sent : sent_columns link frame ≡ replicate 17 0 ∷ []
unfolding received_columns
columns-sent = ap (received_columns link) zeros-sent

pub column-wrong : AreWithin 0 (received_columns link (0 ∷ 0 ∷ 1 ∷ replicate 14 0)) (sent_columns link frame) → ⊥
unfolding received_columns
column-wrong within =
    let h = subst (AreWithin 0 ((0 ∷ 0 ∷ 1 ∷ replicate 14 0) ∷ [])) columns-sent within in omega (arith, h.0)

near : (codeblock : List ℕ) → AreWithin 8 (received_columns link codeblock) (replicate 17 0 ∷ [])
    → IsNear link frame codeblock
near codeblock within = record {
  columns = subst (AreWithin 8 (received_columns link codeblock)) (sym columns-sent) within;
  uncoded = λ none. absurd cc;
}

pub units-near : AreNear link (unit_places link units) units
unfolding match_of wrong_bits low_bits received_columns codeblock_in
units-near = (
  near (0 ∷ 0 ∷ 1 ∷ replicate 14 0) (omega arith, tt),
  (
    near (replicate 17 0) (omega arith, tt),
    (
      near (replicate 17 0) (omega arith, tt),
      (
        near (replicate 17 0) (omega arith, tt),
        (
          near (replicate 17 0) (omega arith, tt),
          tt,
        ),
      ),
    ),
  ),
)

-- the first codeblock is sound, whether or not further markers are to verify it
pub first-sound : IsSoundAt (record link { verify = 0 }) (bits_of octets) 0 false
unfolding match_of wrong_bits low_bits received_columns codeblock_in
first-sound = record {
  room = omega (arith, count);
  matches = refl;
  is_sound = sound-near link frame (0 ∷ 0 ∷ 1 ∷ replicate 14 0) accepted is-frame refl
      (near (0 ∷ 0 ∷ 1 ∷ replicate 14 0) (omega arith, tt));
}
