-- What is said of windows, run after run.
use Rattle.std.proofs.Common.{◌≡◌, ◌⊎◌, ◌∙◌, ◌++◌, ◌+◌, ◌<◌, ℕ, inl, inr, List, [], length, ap, refl, sym, subst, append_assoc, Option, Some, None}
use Rattle.std.proofs.lemmas.List.{append-nil}
use Rattle.tm_base.specs.Takers.{HandedOver}
use Rattle.tm_base.proofs.Handing.{HandedOver-append}
use Rattle.tm_config.specs.Configuration.{Configuration}
use Rattle.tm_config.specs.declared.values.Sought.TheVariants.{Given}
use Rattle.tm_viterbi.specs.WindowBlock.{WindowBlock}
use Rattle.tm_viterbi.specs.WindowSizes.{stream_bound}
use Rattle.tm_windows.specs.declared.choosing.Chosen.{Chosen}
use Rattle.tm_inner.specs.InnerDecoding.{InnerDecoding, InnerDecoderStandsFor, ready_in}
use Rattle.tm_inner.specs.InnerWindows.{AreTold, windows_after, windows_from, windows_in}
use Rattle.tm_inner.specs.Phase.{IsChosenBy, phase_octets, skip_of}
use Rattle.tm_inner.specs.declared.window.Window.{Window}
use Rattle.tm_inner.specs.Receiving.{Hands}
use Rattle.tm_inner.proofs.DecoderReads.{Stays, after_read, given-none}
use Rattle.tm_inner.proofs.Decoders.{stands-first}
use Rattle.tm_inner.proofs.KeptOctets.{windows-first}
use Rattle.tm_inner.proofs.WatchedWindows.{windows-append}

-- where blocks were decoded the phase is what it was
pub chosen-was : (d now : InnerDecoding) (given given_now : List ℕ) (blocks more : List WindowBlock)
    (was : Option Chosen) → d.chosen ≡ was → now.config ≡ d.config → Stays d now
    → InnerDecoderStandsFor d given blocks → InnerDecoderStandsFor now given_now more
    → (blocks ≡ []) ⊎ (now.chosen ≡ d.chosen)
chosen-was d now given given_now blocks more (Some chosen) is config stays stood there = inr (stays chosen is ∙ sym is)
chosen-was d now given given_now blocks more None is config stays stood there =
    elim stood.choice as (λ _. (blocks ≡ []) ⊎ (now.chosen ≡ d.chosen)) [
      | inl waits ↦ inl waits.1
      | inr choice ↦ (
          let given_phase : d.config.phase ≡ Given =
          subst (IsChosenBy d.config (phase_octets d.config given)) is choice in
          inr (given-none now.config (phase_octets now.config given_now) now.chosen more now.has_ended
          (ap (λ (c : Configuration). c.phase) config ∙ given_phase) there.choice ∙ sym is)
          )
    ]

pub windows-were : (d now : InnerDecoding) (given : List ℕ) (blocks : List WindowBlock) → now.config ≡ d.config
    → (blocks ≡ []) ⊎ (now.chosen ≡ d.chosen)
    → windows_after now.config (skip_of now.chosen) given [] blocks
    ≡ windows_after d.config (skip_of d.chosen) given [] blocks
windows-were d now given blocks config (inl none) =
    ap (windows_after now.config (skip_of now.chosen) given []) none
    ∙ sym (ap (windows_after d.config (skip_of d.chosen) given []) none)
windows-were d now given blocks config (inr same) =
    ap (λ (c : Configuration). windows_after c (skip_of now.chosen) given [] blocks) config
    ∙ ap (λ (o : Option Chosen). windows_after d.config (skip_of o) given [] blocks) same

-- the windows of a run that was decoded come after those before
pub told-run : (d now : InnerDecoding) → now.config ≡ d.config → Stays d now
    → ((given : List ℕ) (blocks : List WindowBlock) → InnerDecoderStandsFor d given blocks
    → InnerDecoderStandsFor now given (blocks ++ ready_in now.queue))
    → ((given : List ℕ) (blocks : List WindowBlock) → InnerDecoderStandsFor d given blocks
    → windows_in now ≡ windows_after now.config (skip_of now.chosen) given blocks (ready_in now.queue))
    → (given : List ℕ) (done : List Window) → AreTold d given done → AreTold now given (done ++ windows_in now)
told-run d now config stays stands windows given done told =
    let blocks = told.0 in
    let ready = ready_in now.queue in
    let there = stands given blocks told.1 in
    let same = windows-were d now given blocks config
    (chosen-was d now given given blocks (blocks ++ ready) d.chosen refl config stays told.1 there) in (
      blocks ++ ready,
      there,
      ap (λ l. l ++ windows_in now) (told.2 ∙ sym same)
          ∙ ap (λ l. windows_after now.config (skip_of now.chosen) given [] blocks ++ l)
          (windows given blocks told.1)
          ∙ sym (windows-append now.config (skip_of now.chosen) given [] blocks ready),
    )

-- A watch was told of what was decoded from `before` on, but for the blocks that are ready now.
pub record ToldBut {W : Type 0} (took : W → Window → W → Type 0) (before now : InnerDecoding)
    (watch watch_now : W) : Type 0 where
  pub more : List Window
  pub told : HandedOver took watch more watch_now
  pub are : (given : List ℕ) (done : List Window) → AreTold before given done
      → AreTold now given (done ++ (more ++ windows_in now))

-- it is told of them, and the next run is decoded
pub told-next : {W : Type 0} (took : W → Window → W → Type 0) (before now next : InnerDecoding) (watch middle last : W)
    → ToldBut took before now watch middle → HandedOver took middle (windows_in now) last
    → ((given : List ℕ) (done : List Window) → AreTold now given done
    → AreTold next given (done ++ windows_in next))
    → ToldBut took before next watch last
told-next took before now next watch middle last t ready on = record {
  more = t.more ++ windows_in now;
  told = HandedOver-append took watch middle last t.more (windows_in now) t.told ready;
  are = λ given done is.
      subst (λ (l : List Window). AreTold next given l)
      (append_assoc done (t.more ++ windows_in now) (windows_in next))
      (on given (done ++ (t.more ++ windows_in now)) (t.are given done is));
}

-- that the phase was read says nothing of windows
pub told-read : (d : InnerDecoding) (given : List ℕ) (windows : List Window) → AreTold d given windows
    → AreTold (after_read d) given windows
told-read d given windows told =
    let s = told.1 in (
      told.0,
      record {
        of = s.of;
        same = s.same;
        count = s.count;
        few = s.few;
        decodes = s.decodes;
        lost = s.lost;
        choice = s.choice;
      },
      told.2,
    )

-- once nothing is ready all was told
pub told-all : {W : Type 0} (took : W → Window → W → Type 0) (before now : InnerDecoding) (watch watch_now : W)
    → ToldBut took before now watch watch_now → length (ready_in now.queue) ≡ 0
    → Hands took AreTold before now watch watch_now []
told-all took before now watch watch_now t none =
    let nothing : windows_in now ≡ [] = ap (windows_from now 0) none in
    record {
      more = t.more;
      handed = t.told;
      stands = λ given done few is.
          subst (λ (l : List ℕ). AreTold now l (done ++ t.more)) (sym (append-nil given))
          (subst (λ (l : List Window). AreTold now given (done ++ l))
          (ap (λ l. t.more ++ l) nothing ∙ append-nil t.more) (t.are given done is));
    }

-- octets after those of the steps that were decoded change nothing
pub windows-stay : (d : InnerDecoding) (given more : List ℕ) (blocks : List WindowBlock)
    → InnerDecoderStandsFor d given blocks
    → windows_after d.config (skip_of d.chosen) given [] blocks
    ≡ windows_after d.config (skip_of d.chosen) (given ++ more) [] blocks
windows-stay d given more blocks stood =
    windows-first d.config (skip_of d.chosen) given more blocks (stands-first d given blocks stood)

-- a decoder that decoded no window since
pub told-as : (d now : InnerDecoding) (given given_now : List ℕ) (done : List Window) → now.config ≡ d.config
    → Stays d now → (told : AreTold d given done) → InnerDecoderStandsFor now given_now told.0
    → windows_after d.config (skip_of d.chosen) given [] told.0
    ≡ windows_after d.config (skip_of d.chosen) given_now [] told.0
    → AreTold now given_now done
told-as d now given given_now done config stays told there same = (
  told.0,
  there,
  told.2 ∙ same ∙ sym (windows-were d now given_now told.0 config
      (chosen-was d now given given_now told.0 told.0 d.chosen refl config stays told.1 there)),
)

pub told-filled : (d filled : InnerDecoding) (piece : List ℕ) → filled.config ≡ d.config → Stays d filled
    → ((given : List ℕ) (blocks : List WindowBlock) → length given + length piece < stream_bound
    → InnerDecoderStandsFor d given blocks → InnerDecoderStandsFor filled (given ++ piece) blocks)
    → (given : List ℕ) (done : List Window) → length given + length piece < stream_bound → AreTold d given done
    → AreTold filled (given ++ piece) done
told-filled d filled piece config stays stands given done few told =
    told-as d filled given (given ++ piece) done config stays told (stands given told.0 few told.1)
    (windows-stay d given piece told.0 told.1)
