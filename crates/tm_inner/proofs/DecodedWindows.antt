-- What was told of windows, run after run and at the end.
use Rattle.std.proofs.Common.{◌≡◌, inl, inr, ℕ, ◌+◌, ◌-◌, ◌<◌, ◌∙◌, ◌++◌, true, false, refl, sym, ap, subst, arith, List, [], length, drop, take, Option, append_assoc, take-add}
use Rattle.std.proofs.lemmas.List.{append-nil}
use Rattle.tm_base.specs.Handed.{Handed}
use Rattle.tm_base.specs.Takers.{HandedOver}
use Rattle.tm_config.specs.Configuration.{Configuration}
use Rattle.tm_config.proofs.Choices.{given_or_find, never_both}
use Rattle.tm_viterbi.specs.WindowBlock.{WindowBlock}
use Rattle.tm_viterbi.specs.WindowSizes.{stream_bound}
use Rattle.tm_windows.specs.declared.choosing.Chosen.{Chosen}
use Rattle.tm_inner.specs.Inner.{AreInnerBlocks, AreInnerDue}
use Rattle.tm_inner.specs.InnerDecoding.{InnerDecoding, InnerDecoderStandsFor, IsDrained, ready_in}
use Rattle.tm_inner.specs.InnerWindows.{AreAllDue, AreDecoded, AreFurtherWindows, AreLastWindows, AreTold, AreWindows, AreWindowsDue, windows_after, windows_in}
use Rattle.tm_inner.specs.Phase.{IsChosen, IsChosenSoFar, phase_octets, skip_of}
use Rattle.tm_inner.specs.Receiving.{HasHanded, Hands}
use Rattle.tm_inner.specs.declared.window.Window.{Window}
use Rattle.tm_inner.proofs.DecoderReads.{Stays, after_read}
use Rattle.tm_inner.proofs.Decoders.{settled-chosen, stands-due}
use Rattle.tm_inner.proofs.GivenPieces.{hands-more}
use Rattle.tm_inner.proofs.ReadOctets.{Filled, fills-piece}
use Rattle.tm_inner.proofs.ToldWindows.{told-as, told-filled, told-read, told-run}
use Rattle.tm_inner.proofs.WatchedWindows.{windows-append}

-- ---- a run, and a piece of octets

pub told-next_run : {W : Type 0} (took : W → Window → W → Type 0) (d next : InnerDecoding) (watch watch_now : W)
    → next.config ≡ d.config → Stays d next
    → ((given : List ℕ) (blocks : List WindowBlock) → InnerDecoderStandsFor d given blocks
    → InnerDecoderStandsFor next given (blocks ++ ready_in next.queue))
    → ((given : List ℕ) (blocks : List WindowBlock) → InnerDecoderStandsFor d given blocks
    → windows_in next ≡ windows_after next.config (skip_of next.chosen) given blocks (ready_in next.queue))
    → HandedOver took watch (windows_in next) watch_now
    → Hands took AreTold d (after_read next) watch watch_now []
told-next_run took d next watch watch_now config stays stands windows told = record {
  more = windows_in next;
  handed = told;
  stands = λ given done few is.
      subst (λ (l : List ℕ). AreTold (after_read next) l (done ++ windows_in next)) (sym (append-nil given))
      (told-read next given (done ++ windows_in next) (told-run d next config stays stands windows given done is));
}

-- further octets are put in
pub told-slice : {W : Type 0} (took : W → Window → W → Type 0) (d b filled : InnerDecoding) (start watch : W)
    (octets : List ℕ) (done count : ℕ) → b.has_ended ≡ false
    → Filled b filled count (take (length octets - done) (drop done octets))
    → Hands took AreTold d b start watch (take done octets)
    → Hands took AreTold d filled start watch (take (done + count) octets)
told-slice took d b filled start watch octets done count going slice h =
    let piece = take count (drop done octets) in
    subst (Hands took AreTold d filled start watch) (sym (take-add done count octets))
    (hands-more took AreTold d b filled start watch watch (take done octets) piece h (record {
      more = [];
      handed = refl;
      stands = λ given before few told.
          subst (AreTold filled (given ++ piece)) (sym (append-nil before))
          (told-filled b filled piece slice.later.config slice.later.stays
          (fills-piece b filled octets done count going slice) given before few told);
    }))

-- ---- the end

-- the last window is decoded
told-last : (d now : InnerDecoding) (left : ℕ) → now.config ≡ d.config → now.chosen ≡ d.chosen → d.has_ended ≡ true
    → ((given : List ℕ) (blocks : List WindowBlock) → InnerDecoderStandsFor d given blocks
    → IsChosen d.config given d.chosen
    → AreInnerBlocks d.config (skip_of d.chosen) given (blocks ++ ready_in now.queue) left)
    → ((given : List ℕ) (blocks : List WindowBlock) → InnerDecoderStandsFor d given blocks
    → windows_in now ≡ windows_after now.config (skip_of now.chosen) given blocks (ready_in now.queue))
    → (given : List ℕ) (done : List Window) → AreTold d given done
    → AreWindows d.config given (done ++ windows_in now)
told-last d now left config same ended ends windows given done told =
    let c = d.config in
    let blocks = told.0 in
    let stood = told.1 in
    let ready = ready_in now.queue in
    let choice : IsChosen c given d.chosen = elim stood.choice as (λ _. IsChosen c given d.chosen) [
      | inl waits ↦ absurd (let both : true ≡ false = sym ended ∙ waits.2 in cc)
      | inr is ↦ is
    ] in
    record {
      chosen = d.chosen;
      choice = choice;
      blocks = blocks ++ ready;
      are_blocks = (left, ends given blocks stood choice);
      are = ap (λ l. l ++ windows_in now) told.2
          ∙ ap (λ l. windows_after c (skip_of d.chosen) given [] blocks ++ l)
          (windows given blocks stood
          ∙ ap (λ (k : Configuration). windows_after k (skip_of now.chosen) given blocks ready) config
          ∙ ap (λ (o : Option Chosen). windows_after c (skip_of o) given blocks ready) same)
          ∙ sym (windows-append c (skip_of d.chosen) given [] blocks ready);
    }

pub told-ended : {W : Type 0} (took : W → Window → W → Type 0) (d settled decoded now : InnerDecoding)
    (watch middle : W) (left : ℕ) → settled.config ≡ d.config → Stays d settled
    → ((given : List ℕ) (blocks : List WindowBlock) → InnerDecoderStandsFor d given blocks
    → InnerDecoderStandsFor settled given blocks)
    → (h : Hands took AreTold settled decoded watch middle []) → decoded.config ≡ settled.config
    → decoded.has_ended ≡ true → now.config ≡ decoded.config → now.chosen ≡ decoded.chosen
    → ((given : List ℕ) (blocks : List WindowBlock) → InnerDecoderStandsFor decoded given blocks
    → IsChosen decoded.config given decoded.chosen
    → AreInnerBlocks decoded.config (skip_of decoded.chosen) given (blocks ++ ready_in now.queue) left)
    → ((given : List ℕ) (blocks : List WindowBlock) → InnerDecoderStandsFor decoded given blocks
    → windows_in now ≡ windows_after now.config (skip_of now.chosen) given blocks (ready_in now.queue))
    → (given : List ℕ) (done : List Window) → AreTold d given done
    → AreWindows d.config given (done ++ (h.more ++ windows_in now))
told-ended took d settled decoded now watch middle left config stays stands h same ended config_now chosen ends
    windows given done told =
    let there = told-as d settled given given done config stays told (stands given told.0 told.1) refl in
    let decoded_told = subst (λ (l : List ℕ). AreTold decoded l (done ++ h.more)) (append-nil given)
    (h.stands given done (omega (arith, told.1.few)) there) in
    subst (λ (c : Configuration). AreWindows c given (done ++ (h.more ++ windows_in now))) (same ∙ config)
    (subst (AreWindows decoded.config given) (append_assoc done h.more (windows_in now))
    (told-last decoded now left config_now chosen ended ends windows given (done ++ h.more) decoded_told))

-- ---- what is due

-- all windows that are due with these octets were decoded
abbrev pub IsDecoded : InnerDecoding → List ℕ → Type 0
IsDecoded d given = (blocks : List WindowBlock) → InnerDecoderStandsFor d given blocks → AreAllDue d given blocks

-- so where they are due once the phase is chosen
pub decoded-by : (d : InnerDecoding) (given : List ℕ) (blocks : List WindowBlock)
    → InnerDecoderStandsFor d given blocks → IsChosenSoFar d.config given d.chosen
    → (IsChosen d.config given d.chosen → AreInnerDue d.config (skip_of d.chosen) given blocks)
    → AreAllDue d given blocks
decoded-by d given blocks stood so_far due =
    let c = d.config in
    let all : IsChosen c given d.chosen → AreAllDue d given blocks = λ choice.
    inr (settled-chosen c (phase_octets c given) d.chosen so_far choice, choice, due choice) in
    elim stood.choice as (λ _. AreAllDue d given blocks) [
      | inl waits ↦ elim (given_or_find c.phase) as (λ _. AreAllDue d given blocks) [
        | inl given_phase ↦ all (subst (IsChosen c given) (sym waits.0) given_phase)
        | inr find ↦ inl (
          λ settled. never_both c.phase (subst (IsChosenSoFar c given) waits.0 so_far settled) find,
          waits.1,
        )
      ]
      | inr is ↦ all is
    ]

-- where nothing is left to decode
pub decoded-drained : (d : InnerDecoding) → IsDrained d.queue → AreDecoded d
decoded-drained d drained going given blocks stood so_far =
    decoded-by d given blocks stood so_far (stands-due d given blocks stood drained)

pub handed-decoded : (d : InnerDecoding) (given : List ℕ) (done : List (Handed WindowBlock)) → HasHanded d given done
    → IsDecoded d given
handed-decoded d given done h blocks stood =
    decoded-by d given blocks stood h.so_far (stands-due d given blocks stood h.drained)

pub told-due : (d : InnerDecoding) (given : List ℕ) (windows : List Window) → IsDecoded d given
    → AreTold d given windows → AreWindowsDue d.config given windows
told-due d given windows decoded told =
    elim (decoded told.0 told.1) as (λ _. AreWindowsDue d.config given windows) [
      | inl none ↦ inl (none.0, told.2 ∙ ap (windows_after d.config (skip_of d.chosen) given []) none.1)
      | inr due ↦ inr (
        due.0,
        record {
          chosen = d.chosen;
          choice = due.1;
          blocks = told.0;
          are_blocks = due.2;
          are = told.2;
        },
      )
    ]

-- what was told of the octets before
abbrev before-of : (d : InnerDecoding) → List ℕ → List WindowBlock → List Window
before-of d given blocks = windows_after d.config (skip_of d.chosen) given [] blocks

-- and what is told with further octets
pub told-further : {W : Type 0} (took : W → Window → W → Type 0) (d now : InnerDecoding) (watch watch_now : W)
    (given octets : List ℕ) (blocks : List WindowBlock) → (h : Hands took AreTold d now watch watch_now octets)
    → now.config ≡ d.config → length given + length octets < stream_bound → InnerDecoderStandsFor d given blocks
    → IsDecoded d given → IsDecoded now (given ++ octets) → AreFurtherWindows d.config given octets h.more
told-further took d now watch watch_now given octets blocks h config few stood decoded decoded_now =
    let before = before-of d given blocks in
    let told : AreTold d given before = (blocks, stood, refl) in (
      before,
      told-due d given before decoded told,
      subst (λ (c : Configuration). AreWindowsDue c (given ++ octets) (before ++ h.more)) config
          (told-due now (given ++ octets) (before ++ h.more) decoded_now (h.stands given before few told)),
    )

-- or at the end
pub told-rest : (d : InnerDecoding) (given : List ℕ) (blocks : List WindowBlock) (last : List Window)
    → InnerDecoderStandsFor d given blocks → IsDecoded d given
    → ((before : List Window) → AreTold d given before → AreWindows d.config given (before ++ last))
    → AreLastWindows d.config given last
told-rest d given blocks last stood decoded all =
    let before = before-of d given blocks in
    let told : AreTold d given before = (blocks, stood, refl) in
    (before, told-due d given before decoded told, all before told)
