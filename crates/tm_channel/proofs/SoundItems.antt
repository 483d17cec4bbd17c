-- A whole codeblock that is correctable is found, if codeblocks are looked for inside others too.
use Rattle.std.proofs.Common.{◌≡◌, ℕ, zero, suc, Bool, true, false, List, [], ◌∷◌, length, drop, Some, refl, sym, ◌∙◌, subst, arith, inl, inr}
use Rattle.std.specs.List.{Any}
use Rattle.tm_config.specs.Accepted.{IsAccepted}
use Rattle.tm_config.specs.Configuration.{Configuration, codeblock_length}
use Rattle.tm_inner.specs.Inner.{Inner}
use Rattle.tm_sync.specs.declared.found.Found.{Found}
use Rattle.tm_sync.specs.Places.{found_at}
use Rattle.tm_sync.specs.PlacesInside.{Hides}
use Rattle.tm_sync.specs.Rescan.{places_with}
use Rattle.tm_sync.proofs.FoundInside.{found-all}
use Rattle.tm_codeblock.specs.ReceivedCodeblock.{rules_of, code_columns, codeblock_at, is_sound, received_codeblock, received_columns, sound_in}
use Rattle.tm_codeblock.proofs.PlacesIn.{places_in-on}
use Rattle.tm_channel.specs.Items.{ItemValue, IsItem, AreItems, AreItemsOf, are_fixed}
use Rattle.tm_channel.specs.Receive.{Receive}
use Rattle.tm_channel.specs.SentStream.{IsFrame, IsNear, sent_columns}
use Rattle.tm_channel.specs.SoundCodeblocks.{IsFoundAt, IsSoundAt}
use Rattle.tm_channel.proofs.HasItems.{has-answers}
use Rattle.tm_channel.proofs.ReceivedOctets.{OneBits, items-at}
use Rattle.tm_channel.proofs.Repaired.{columns-sound, item-sound}
use Rattle.tm_channel.proofs.Repairs.{words-are}
use Rattle.tm_channel.proofs.SentCodeblocks.{are_codewords}

-- a codeblock that is disturbed within the repair bound is sound
pub sound-near : (c : Configuration) (frame codeblock : List ℕ) → IsAccepted c → IsFrame c frame
    → length codeblock ≡ codeblock_length c → IsNear c frame codeblock → is_sound c codeblock ≡ true
sound-near c frame codeblock ok is size near =
    let h = has-answers c (received_columns c codeblock) in
    columns-sound c (received_columns c codeblock) h.0 h.1 h.2
    ∙ (words-are c (received_columns c codeblock) (sent_columns c frame) h.0 h.1 ok
    (are_codewords c frame codeblock ok is size) near.columns h.2).0

-- what holds of a place, and so of its item, holds of an item
any-of : (c : Configuration) (bits : List Bool) (P : Found → Type 0) (Q : ItemValue → Type 0)
    → ((f : Found) (item : ItemValue) → P f → IsItem c f (codeblock_at c bits f) item → Q item)
    → (fs : List Found) (items : List ItemValue) → AreItemsOf c bits fs items → Any P fs → Any Q items
any-of c bits P Q says [] items are (k, f, below, is, holds) = absurd (omega arith)
any-of c bits P Q says (g ∷ fs) [] are some = absurd are
any-of c bits P Q says (g ∷ fs) (item ∷ items) are (zero, f, below, is, holds) =
    (0, item, omega arith, refl, says g item (subst P (sym is) holds) are.0)
any-of c bits P Q says (g ∷ fs) (item ∷ items) are (suc k, f, below, is, holds) =
    let next = any-of c bits P Q says fs items are.1 (k, f, omega arith, is, holds) in
    (suc next.0, next.1, omega (arith, next.2), next.3, next.4)

found-at : (c : Configuration) (bits : List Bool) (at : ℕ) (inverted : Bool) (items : List ItemValue)
    → c.rescan ≡ true → c.verify ≡ 0 → IsSoundAt c bits at inverted → AreItems c bits items
    → IsFoundAt c bits at inverted items
found-at c bits at inverted items on alone is are =
    elim (found-all (rules_of c) (code_columns c) (sound_in c bits) bits at inverted alone is.room is.matches
    is.is_sound) as (λ _. IsFoundAt c bits at inverted items) [
      | inl among ↦ inl (any-of c bits (λ g. place ≡ g) Repairs repairs all items its
          (among.0, place, among.1.0, sym among.1.1, refl))
      | inr hides ↦ inr (any-of c bits HidesIt (λ item. HidesIt item.found)
          (λ f item holds it. subst HidesIt (sym it.place) holds) all items its hides)
    ]
  where
    place : Found
    place = found_at at false inverted (drop at bits)

    all : List Found
    all = places_with (rules_of c) (Some (code_columns c)) (sound_in c bits) bits

    its : AreItemsOf c bits all items
    its = subst (λ (fs : List Found). AreItemsOf c bits fs items) (places_in-on c bits on) are

    HidesIt : Found → Type 0
    HidesIt = Hides (rules_of c) (code_columns c) (sound_in c bits) bits at

    Repairs : ItemValue → Type 0
    Repairs item = IsItem c place (received_codeblock c bits at inverted) item × (are_fixed item.answers ≡ true)

    repairs : (f : Found) (item : ItemValue) → place ≡ f → IsItem c f (codeblock_at c bits f) item → Repairs item
    repairs f item same it =
        let own : IsItem c place (codeblock_at c bits place) item =
        subst (λ (g : Found). IsItem c g (codeblock_at c bits g) item) (sym same) it in
        (own, sym (item-sound c place (codeblock_at c bits place) item own) ∙ is.is_sound)

-- so of received octets
abbrev pub FoundItems : Type 0
FoundItems =
    (c : Configuration) (phase : ℕ) (octets : List ℕ) (bits : List Bool) (items : List ItemValue) (at : ℕ)
    (inverted : Bool) → c.rescan ≡ true → c.verify ≡ 0 → Inner c phase octets bits → Receive c phase octets items
    → IsSoundAt c bits at inverted → IsFoundAt c bits at inverted items

pub received-found : OneBits → FoundItems
received-found one c phase octets bits items at inverted on alone inner r is =
    found-at c bits at inverted items on alone is (items-at one c phase octets bits items inner r)
