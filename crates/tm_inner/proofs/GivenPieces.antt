-- What is given one piece after another.
use Rattle.std.proofs.Common.{◌≡◌, ℕ, ◌+◌, ◌-◌, ◌<◌, ◌≤◌, min, inl, inr, length-drop, List, [], ◌++◌, length, drop, take, map, refl, sym, ap, ◌∙◌, subst, arith, append_assoc, length-append, length-take, Err, IsErrOf}
use Rattle.std.proofs.lemmas.Bool.{cases_lt}
use Rattle.std.proofs.lemmas.List.{append-nil, drop_all, drop-map, length-map, map-append, take_all}
use Rattle.tm_base.specs.SoftForm.{from_form}
use Rattle.tm_base.proofs.Handing.{HandedOver-append}
use Rattle.tm_config.specs.Configuration.{Configuration, is_signed}
use Rattle.tm_viterbi.specs.WindowSizes.{stream_bound}
use Rattle.tm_windows.specs.declared.decoder.FeedError.{FeedError}
use Rattle.tm_windows.specs.declared.decoder.FeedError.TheVariants.{Taker, Stopped}
use Rattle.tm_inner.specs.Inner.{soft_value, soft_octets}
use Rattle.tm_inner.specs.Phase.{skipped_at, phase_octets}
use Rattle.tm_inner.specs.Receiving.{Hands}
use Rattle.tm_inner.proofs.DueBits.{drop-split}

-- ---- pieces, one after another

pub hands-none : {T I S : Type 0} (took : T → I → T → Type 0) (Stands : S → List ℕ → List I → Type 0) (s : S)
    (taker : T)
    → Hands took Stands s s taker taker []
hands-none took Stands s taker = record {
  more = [];
  handed = refl;
  stands =
      λ given done few stood. subst (λ (l : List ℕ). Stands s l (done ++ [])) (sym (append-nil given))
      (subst (Stands s given) (sym (append-nil done)) stood);
}

pub hands-more : {T I S : Type 0} (took : T → I → T → Type 0) (Stands : S → List ℕ → List I → Type 0) (a b c : S)
    (taker middle now : T) (first second : List ℕ)
    → Hands took Stands a b taker middle first → Hands took Stands b c middle now second
    → Hands took Stands a c taker now (first ++ second)
hands-more took Stands a b c taker middle now first second p q = record {
  more = p.more ++ q.more;
  handed = HandedOver-append took taker middle now p.more q.more p.handed q.handed;
  stands = λ given done few stood.
      let there = p.stands given done (omega (arith, few, length-append first second)) stood in
      let last = q.stands (given ++ first) (done ++ p.more)
      (omega (arith, few, length-append first second, length-append given first)) there in
      subst (λ (l : List ℕ). Stands c l (done ++ (p.more ++ q.more))) (append_assoc given first second)
      (subst (Stands c ((given ++ first) ++ second)) (append_assoc done p.more q.more) last);
}

-- with no octets more
pub hands-then : {T I S : Type 0} (took : T → I → T → Type 0) (Stands : S → List ℕ → List I → Type 0) (a b c : S)
    (taker middle now : T) (octets : List ℕ)
    → Hands took Stands a b taker middle octets → Hands took Stands b c middle now []
    → Hands took Stands a c taker now octets
hands-then took Stands a b c taker middle now octets p q =
    subst (Hands took Stands a c taker now) (append-nil octets)
    (hands-more took Stands a b c taker middle now octets [] p q)

-- octets that are all below the bound are all taken
pub hands-whole : {T I S : Type 0} (took : T → I → T → Type 0) (Stands : S → List ℕ → List I → Type 0) (before now : S)
    (taker taker_now : T) (octets : List ℕ) (n : ℕ)
    → ((given : List ℕ) (done : List I) → length given + length octets < stream_bound → Stands before given done
    → length octets ≤ n)
    → Hands took Stands before now taker taker_now (take n octets)
    → Hands took Stands before now taker taker_now octets
hands-whole took Stands before now taker taker_now octets n whole h = record {
  more = h.more;
  handed = h.handed;
  stands = λ given done few stood.
      subst (λ (l : List ℕ). Stands now (given ++ l) (done ++ h.more))
      (take_all n octets (whole given done few stood))
      (h.stands given done (omega (arith, few, length-take n octets)) stood);
}

-- of two causes the other
pub taker_alone : {T : Type 0} (e : FeedError) → (IsErrOf {T = T} (Err e) Stopped → ⊥) → IsErrOf {T = T} (Err e) Taker
taker_alone Taker h = refl
taker_alone Stopped h = absurd (h refl)

-- ---- the octets of an inner receiver

drop-least : (n : ℕ) (octets : List ℕ) → drop (min n (length octets)) octets ≡ drop n octets
drop-least n octets = elim (cases_lt (length octets) n) as (λ _. drop (min n (length octets)) octets ≡ drop n octets) [
  | inl less ↦ drop_all (min n (length octets)) octets (omega (arith, less))
      ∙ sym (drop_all n octets (omega (arith, less)))
  | inr least ↦ (let same : min n (length octets) ≡ n = omega (arith, least) in ap (λ k. drop k octets) same)
]

-- the soft octets of a longer list, where this many of the further ones are skipped
pub phase_octets-more : (c : Configuration) (given octets : List ℕ) (skipped : ℕ)
    → skipped ≡ min (skipped_at c.inner c - length given) (length octets)
    → phase_octets c (given ++ octets) ≡ phase_octets c given ++ from_form (is_signed c.soft) (drop skipped octets)
phase_octets-more c given octets skipped is =
    let n = skipped_at c.inner c in
    ap (map (soft_value c)) (drop-split n given octets) ∙ map-append (soft_value c) (drop n given)
    (drop (n - length given) octets)
    ∙ ap (λ l. phase_octets c given ++ map (soft_value c) l)
    (sym (drop-least (n - length given) octets) ∙ ap (λ k. drop k octets) (sym is))

pub few-soft : (c : Configuration) (given : List ℕ) → length (phase_octets c given) ≤ length given
few-soft c given =
    omega (
      arith,
      length-map (drop (skipped_at c.inner c) given) (soft_value c),
      length-drop (skipped_at c.inner c) given,
    )

-- those after the phase are the ones that are decoded
pub soft-after : (c : Configuration) (phase n : ℕ) (given : List ℕ) → n ≡ c.skip
    → drop phase (map (soft_value c) (drop n given)) ≡ soft_octets c phase given
soft-after c phase n given is =
    drop-map (soft_value c) phase (drop n given) ∙ ap (λ k. map (soft_value c) (drop phase (drop k given))) is
