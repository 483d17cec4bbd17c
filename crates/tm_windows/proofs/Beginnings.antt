-- A spot has one beginning, whatever octets come.
use Rattle.std.proofs.Common.{◌≡◌, ℕ, ◌-◌, ◌≤◌, ◌∙◌, refl, sym, ap, subst, arith, List, Option, Some, None, length, length-append, length-drop, inl, inr}
use Rattle.std.proofs.lemmas.List.{drop-append-le}
use Rattle.tm_viterbi.specs.Settings.{Settings}
use Rattle.tm_viterbi.specs.Due.{Place}
use Rattle.tm_viterbi.proofs.Closing.{more_octets}
use Rattle.tm_windows.specs.Windows.{Windows, Beginning, Spot, starts_after, moved, DropsBy, BeginsBy, Begins, IsUnseen, BeginsLast}
use Rattle.tm_windows.proofs.Slips.{IsSlip-one, IsSlip-within, IsSlip-prefix}

-- ---- the only one

drops-one : (s : Settings) (seen : Option ℕ) (at : Place) (b d : Beginning) → DropsBy s seen at b
    → DropsBy s seen at d → b ≡ d
drops-one s None at b d h k = h ∙ sym k
drops-one s (Some steps) at b d h k =
    let dropped : b.dropped ≡ d.dropped = IsSlip-one s.rate s.invert at.t steps at.octets b.dropped d.dropped h.1 k.1 in
    let place : b.place ≡ d.place = h.2 ∙ ap (λ (n : ℕ). moved n at) dropped ∙ sym k.2 in
    λ i. record { dropped = dropped i; place = place i }

begins-one_by : (w : Windows) (decided : Option ℕ) (at : Place) (b d : Beginning) → BeginsBy w decided at b
    → BeginsBy w decided at d → b ≡ d
begins-one_by w (Some dropped) at b d h k = h ∙ sym k
begins-one_by w None at b d h k = drops-one w.settings w.seen at b d h k

pub begins-one : (w : Windows) (spot : Spot) (b d : Beginning) → Begins w spot b → Begins w spot d → b ≡ d
begins-one w spot b d h k = begins-one_by w spot.decided spot.place b d h k

-- where too few octets are there, whether octets are dropped is still undecided
pub unseen-none : (w : Windows) (spot : Spot) (b : Beginning) → IsUnseen w spot → Begins w spot b → ⊥
unseen-none w spot b unseen begins =
    let undecided = subst (λ (o : Option ℕ). BeginsBy w o spot.place b) unseen.0 begins in
    let seen = subst (λ (o : Option ℕ). DropsBy w.settings o spot.place b) unseen.1.1 undecided in
    omega (arith, seen.0, unseen.1.2)

pub begins_last-one : (w : Windows) (spot : Spot) (b d : Beginning) → BeginsLast w spot b → BeginsLast w spot d → b ≡ d
begins_last-one w spot b d (inl h) (inl k) = begins-one w spot b d h k
begins_last-one w spot b d (inl h) (inr k) = absurd (unseen-none w spot b k.0 h)
begins_last-one w spot b d (inr h) (inl k) = absurd (unseen-none w spot d h.0 k)
begins_last-one w spot b d (inr h) (inr k) = h.1 ∙ sym k.1

-- ---- its place

pub moved-place : (k : ℕ) (at : Place) → ((moved k at).t ≡ at.t) × (length (moved k at).octets ≡ length at.octets - k)
moved-place k at = (refl, length-drop k at.octets)

-- at the spot's step, with no more octets
abbrev IsWithin : Place → Beginning → Type 0
IsWithin at b = (b.place.t ≡ at.t) × (length b.place.octets ≤ length at.octets)

unmoved-within : (at : Place) (b : Beginning) (dropped : ℕ) → b ≡ record { dropped = dropped; place = at }
    → IsWithin at b
unmoved-within at b dropped h =
    (ap (λ (v : Beginning). v.place.t) h, omega (arith, ap (λ (v : Beginning). length v.place.octets) h))

drops-within : (s : Settings) (seen : Option ℕ) (at : Place) (b : Beginning) → DropsBy s seen at b → IsWithin at b
drops-within s None at b h = unmoved-within at b 0 h
drops-within s (Some steps) at b h =
    let there = moved-place b.dropped at in
    (ap (λ (v : Place). v.t) h.2 ∙ there.0, omega (arith, ap (λ (v : Place). length v.octets) h.2, there.1))

begins-within_by : (w : Windows) (decided : Option ℕ) (at : Place) (b : Beginning) → BeginsBy w decided at b
    → IsWithin at b
begins-within_by w (Some dropped) at b h = unmoved-within at b dropped h
begins-within_by w None at b h = drops-within w.settings w.seen at b h

pub begins-within : (w : Windows) (spot : Spot) (b : Beginning) → Begins w spot b
    → (b.place.t ≡ spot.place.t) × (length b.place.octets ≤ length spot.place.octets)
begins-within w spot b h = begins-within_by w spot.decided spot.place b h

-- ---- octets that follow

abbrev pub longer_beginning : Beginning → List ℕ → Beginning
longer_beginning b more = record { dropped = b.dropped; place = more_octets b.place more }

abbrev pub longer_spot : Spot → List ℕ → Spot
longer_spot spot more = record { place = more_octets spot.place more; decided = spot.decided }

moved-more : (k : ℕ) (at : Place) (more : List ℕ) → k ≤ length at.octets
    → more_octets (moved k at) more ≡ moved k (more_octets at more)
unfolding more_octets
moved-more k at more le =
    let make : List ℕ → Place = λ octets. record { starts = starts_after k at.starts; t = at.t; octets = octets } in
    ap make (sym (drop-append-le k at.octets more le))

drops-more : (s : Settings) (seen : Option ℕ) (at : Place) (b : Beginning) (more : List ℕ) → DropsBy s seen at b
    → DropsBy s seen (more_octets at more) (longer_beginning b more)
unfolding more_octets
drops-more s None at b more h = ap (λ (v : Beginning). longer_beginning v more) h
drops-more s (Some steps) at b more h = (
  omega (arith, h.0, length-append at.octets more),
  IsSlip-prefix s.rate s.invert at.t steps at.octets more b.dropped h.0 h.1,
  ap (λ (v : Place). more_octets v more) h.2
      ∙ moved-more b.dropped at more (omega (
        arith,
        h.0,
        IsSlip-within s.rate s.invert at.t steps at.octets b.dropped
            h.1,
      )),
)

begins-more_by : (w : Windows) (decided : Option ℕ) (at : Place) (b : Beginning) (more : List ℕ)
    → BeginsBy w decided at b
    → BeginsBy w decided (more_octets at more) (longer_beginning b more)
begins-more_by w (Some dropped) at b more h = ap (λ (v : Beginning). longer_beginning v more) h
begins-more_by w None at b more h = drops-more w.settings w.seen at b more h

pub begins-more : (w : Windows) (spot : Spot) (b : Beginning) (more : List ℕ) → Begins w spot b
    → Begins w (longer_spot spot more) (longer_beginning b more)
begins-more w spot b more h = begins-more_by w spot.decided spot.place b more h
