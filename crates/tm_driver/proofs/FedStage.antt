-- What a stage gives, piece after piece, and at the end.
use Rattle.std.proofs.Common.{◌≡◌, ◌⊎◌, inl, inr, ℕ, ◌+◌, ◌-◌, ◌≤◌, Bool, true, false, List, [], ◌++◌, length, take, drop, append_assoc, refl, sym, ap, subst, arith, length-append, length-take}
use Rattle.std.proofs.lemmas.List.{append-nil}
use Rattle.tm_base.specs.Limits.{most_limit}
use Rattle.tm_base.specs.Takers.{HandedOver}
use Rattle.tm_base.proofs.Handing.{HandedOver-append}
use Rattle.tm_driver.specs.Staged.{StagedTo, Takes, TakesEnd}
use Rattle.tm_driver.specs.Statuses.{ending_at_end}
use Rattle.tm_driver.specs.Writing.{Text}
use Rattle.tm_driver.specs.declared.ending.Outcome.{Outcome}
use Rattle.tm_driver.specs.declared.ending.Outcome.TheVariants.{Done, Bad, LeftOver}
use Rattle.tm_driver.proofs.Pieces.{piece-more}

-- of no octets a stage gives nothing
pub takes-none : {S T : Type 0} (took : T → Text → T → Type 0) (A : S → S → List ℕ → List Text → Type 0) (stage : S)
    (taker : T) → Takes took A A stage stage taker taker []
takes-none took A stage taker = record {
  texts = [];
  handed = refl;
  stands = λ new given done few stood.
      subst (λ (o : List ℕ). A new stage o (done ++ [])) (sym (append-nil given))
      (subst (A new stage given) (sym (append-nil done)) stood);
}

-- of octets, and of more after them
pub takes-more : {S T : Type 0} (took : T → Text → T → Type 0) (A B C : S → S → List ℕ → List Text → Type 0)
    (before middle now : S) (taker taker_middle taker_now : T) (first more : List ℕ)
    → Takes took A B before middle taker taker_middle first → Takes took B C middle now taker_middle taker_now more
    → Takes took A C before now taker taker_now (first ++ more)
takes-more took A B C before middle now taker taker_middle taker_now first more p q = record {
  texts = p.texts ++ q.texts;
  handed = HandedOver-append took taker taker_middle taker_now p.texts q.texts p.handed q.handed;
  stands = λ new given done few stood.
      let size = length-append first more in
      subst (λ (o : List ℕ). C new now o (done ++ (p.texts ++ q.texts))) (append_assoc given first more)
      (subst (C new now ((given ++ first) ++ more)) (append_assoc done p.texts q.texts)
      (q.stands new (given ++ first) (done ++ p.texts) (omega (arith, few, size, length-append given first))
      (p.stands new given done (omega (arith, few, size)) stood)));
}

-- the same where no octets follow
pub takes-then : {S T : Type 0} (took : T → Text → T → Type 0) (A B C : S → S → List ℕ → List Text → Type 0)
    (before middle now : S) (taker taker_middle taker_now : T) (octets : List ℕ)
    → Takes took A B before middle taker taker_middle octets → Takes took B C middle now taker_middle taker_now []
    → Takes took A C before now taker taker_now octets
takes-then took A B C before middle now taker taker_middle taker_now octets p q =
    subst (Takes took A C before now taker taker_now) (append-nil octets)
    (takes-more took A B C before middle now taker taker_middle taker_now octets [] p q)

-- of a piece up to a place, and further octets of it, for which nothing is given
pub takes-step : {S T : Type 0} (took : T → Text → T → Type 0) (A B C : S → S → List ℕ → List Text → Type 0)
    (before middle now : S) (taker taker_now : T) (piece : List ℕ) (at count : ℕ)
    → ((new : S) (given : List ℕ) (done : List Text) → B new middle given done
    → C new now (given ++ take count (take (length piece - at) (drop at piece))) done)
    → Takes took A B before middle taker taker_now (take at piece)
    → Takes took A C before now taker taker_now (take (at + count) piece)
takes-step took A B C before middle now taker taker_now piece at count step t = record {
  texts = t.texts;
  handed = t.handed;
  stands = λ new given done few stood.
      subst (λ (o : List ℕ). C new now o (done ++ t.texts)) (piece-more given piece at count)
      (step new (given ++ take at piece) (done ++ t.texts)
      (t.stands new given done (omega (arith, few, length-take at piece, length-take (at + count) piece)) stood));
}

module _ {S T : Type 0} (took : T → Text → T → Type 0) (Stands : S → S → List ℕ → List Text → Type 0)
    (new before now : S) (middle last : T) (limit : ℕ) (octets : List ℕ) (all : List Text)
    (stood : Stands new before (take limit octets) all) (most : limit ≤ most_limit) where
  -- it was fed one more turn
  pub fed-turn : (After : S → S → List ℕ → List Text → Type 0) (turn piece : List ℕ)
      → take limit (octets ++ turn) ≡ take limit octets ++ piece
      → (t : Takes took Stands After before now middle last piece)
      → After new now (take limit (octets ++ turn)) (all ++ t.texts)
  fed-turn After turn piece same t =
      let few : length (take limit octets) + length piece ≤ most_limit =
      omega (
        arith,
        most,
        length-append (take limit octets) piece,
        ap length same,
        length-take limit (octets ++ turn),
      ) in
      subst (λ (o : List ℕ). After new now o (all ++ t.texts)) (sym same)
      (t.stands new (take limit octets) all few stood)

  -- it goes on or has stopped
  pub fed-either : (Stopped : S → S → List ℕ → List Text → Type 0) (goes_on : Bool) (turn piece : List ℕ)
      → take limit (octets ++ turn) ≡ take limit octets ++ piece
      → (goes_on ≡ true → Takes took Stands Stands before now middle last piece)
      → (goes_on ≡ false → Takes took Stands Stopped before now middle last piece)
      → (more : List Text) × (Stands new now (take limit (octets ++ turn)) (all ++ more)
      ⊎ Stopped new now (take limit (octets ++ turn)) (all ++ more)) × HandedOver took middle more last
  fed-either Stopped true turn piece same on stops =
      let t = on refl in (t.texts, inl (fed-turn Stands turn piece same t), t.handed)
  fed-either Stopped false turn piece same on stops =
      let t = stops refl in (t.texts, inr (fed-turn Stopped turn piece same t), t.handed)

  pub fed-end : (Finished : S → S → List ℕ → List Text → Outcome → Type 0) (by : Outcome)
      → (t : TakesEnd took Stands Finished before now middle last by)
      → Finished new now (take limit octets) (all ++ t.texts) by
  fed-end Finished by t = t.finished new (take limit octets) all (omega (arith, most, length-take limit octets)) stood

-- how it ended by its outcome
pub staged-end : {S : Type 0} (stands stopped : S → List ℕ → List Text → Type 0)
    (finished : S → List ℕ → List Text → Outcome → Type 0) (limit : ℕ) (now : S) (by : Outcome) (octets : List ℕ)
    (texts : List Text) → length octets ≤ limit → finished now octets texts by
    → StagedTo stands stopped finished limit now (ending_at_end by) octets texts
staged-end stands stopped finished limit now Done octets texts within is = (is, within)
staged-end stands stopped finished limit now Bad octets texts within is = (is, within)
staged-end stands stopped finished limit now LeftOver octets texts within is = (is, within)
