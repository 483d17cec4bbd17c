-- What a watch is told of windows, as octets go through the first stage.
use Rattle.std.proofs.Common.{◌≡◌, inr, ◌≤◌, ◌*◌, ◌++◌, ◌∙◌, ℕ, false, List, [], ◌∷◌, length, Option, Some, None, ap, refl, sym, subst, arith}
use Rattle.std.specs.Option.{is_some}
use Rattle.std.proofs.lemmas.List.{append-nil}
use Rattle.tm_base.specs.Takers.{HandedOver}
use Rattle.tm_base.proofs.Handing.{HandedOver-append}
use Rattle.tm_config.specs.Configuration.{Configuration}
use Rattle.tm_conv.specs.declared.rates.Rate.{Rate}
use Rattle.tm_viterbi.specs.Clean.{kept_bits}
use Rattle.tm_viterbi.specs.WindowBlock.{WindowBlock}
use Rattle.tm_windows.specs.Windows.{first_spot}
use Rattle.tm_windows.proofs.KeptBits.{followed-later}
use Rattle.tm_inner.specs.Inner.{AreInnerDue, DueAt, soft_octets, windows_of}
use Rattle.tm_inner.specs.InnerDecoding.{InnerDecoderStandsFor, InnerDecoding, ready_in}
use Rattle.tm_inner.specs.InnerWindows.{AreDecoded, AreTold, AreWindows, windows_after, windows_in}
use Rattle.tm_inner.specs.Phase.{skip_of}
use Rattle.tm_inner.specs.Receiving.{Hands}
use Rattle.tm_inner.specs.declared.window.Window.{Window}
use Rattle.tm_inner.proofs.DecodedWindows.{decoded-drained, told-ended}
use Rattle.tm_inner.proofs.GivenPieces.{hands-more}
use Rattle.tm_inner.proofs.ToldWindows.{told-filled}
use Rattle.tm_channel.proofs.FirstStage.{Ending, Fills, Settles, drained-plain}
use Rattle.tm_channel.proofs.GivenOctets.{IsWaiting}
use Rattle.tm_channel.proofs.PhasedItems.{prefix-nil}

-- ---- what it was told

-- octets were put in, and no window decoded
pub watched-filled : {W : Type 0} (took : W → Window → W → Type 0) (before now : InnerDecoding) (watch : W)
    (octets : List ℕ) → Fills before now octets → before.has_ended ≡ false
    → Hands took AreTold before now watch watch octets
watched-filled took before now watch octets fills going = record {
  more = [];
  handed = refl;
  stands = λ given done few told.
      subst (AreTold now (given ++ octets)) (sym (append-nil done))
      (told-filled before now octets fills.on.config fills.on.stays
      (λ given blocks few stood. fills.stands given blocks going few stood) given done few told);
}

-- and then windows were
pub watched-then : {W : Type 0} (took : W → Window → W → Type 0) (a b c : InnerDecoding) (watch middle now : W)
    (octets : List ℕ) → Hands took AreTold a b watch middle octets → Hands took AreTold b c middle now []
    → Hands took AreTold a c watch now octets
watched-then took a b c watch middle now octets p q =
    subst (Hands took AreTold a c watch now) (append-nil octets)
    (hands-more took AreTold a b c watch middle now octets [] p q)

-- ---- all that is due was decoded

pub decoded-plain : (d : InnerDecoding) → is_some d.config.inner ≡ false → AreDecoded d
decoded-plain d plain going given blocks stood so_far =
    decoded-drained d (drained-plain d.config d.queue stood.of plain) going given blocks stood so_far

-- blocks that keep no bits are none
no-blocks : (blocks : List WindowBlock) (keep : ℕ) → 1 ≤ keep → length blocks * keep ≤ 0 → blocks ≡ []
no-blocks [] keep some few = refl
no-blocks (x ∷ blocks) keep some few = absurd (omega (arith, some, few))

none-more : (rate : Option Rate) (c : Configuration) (phase : ℕ) (given : List ℕ) (blocks more : List WindowBlock)
    → 1 ≤ c.keep → length (kept_bits more) ≤ 0 → DueAt rate c phase given (blocks ++ more) → more ≡ []
none-more None c phase given blocks more some none due = (prefix-nil blocks more due).1
none-more (Some rate) c phase given blocks more some none due =
    let w = windows_of c rate in
    no-blocks more c.keep some
    (omega (arith, none, followed-later w (first_spot w (soft_octets c phase given)) due.to blocks more due.closed))

-- where none may be buffered
pub decoded-waits : (d : InnerDecoding) (spare : ℕ) → 1 ≤ d.config.keep → spare ≡ 0 → IsWaiting d spare
    → AreDecoded d
decoded-waits d spare some nothing waits going given blocks stood so_far =
    let c = d.config in
    let f = waits going given blocks stood in
    let none = none-more c.inner c (skip_of d.chosen) given blocks f.2.0 some (omega (arith, f.2.1, nothing)) f.2.2 in
    inr (
      f.0,
      f.1,
      subst (AreInnerDue c (skip_of d.chosen) given)
          (ap (λ (l : List WindowBlock). blocks ++ l) none ∙ append-nil blocks) f.2.2,
    )

-- ---- the end of the octets

-- the windows that were told of, and that of the last block, are all
pub watched-last : {W : Type 0} (took : W → Window → W → Type 0) (s settled now last : InnerDecoding)
    (watch middle watch_now : W) (left count : ℕ) (slips : Option ℕ) → Settles s settled
    → Hands took AreTold settled now watch middle [] → now.config ≡ settled.config
    → now.has_ended ≡ settled.has_ended → last.config ≡ now.config → last.chosen ≡ now.chosen
    → Ending now last.queue (ready_in last.queue) left count slips
    → ((given : List ℕ) (blocks : List WindowBlock) → InnerDecoderStandsFor now given blocks → windows_in last
    ≡ windows_after last.config (skip_of last.chosen) given blocks (ready_in last.queue))
    → HandedOver took middle (windows_in last) watch_now
    → (more : List Window) × HandedOver took watch more watch_now
    × ((given : List ℕ) (done : List Window) → AreTold s given done → AreWindows s.config given (done ++ more))
watched-last took s settled now last watch middle watch_now left count slips settles p same ended config chosen ending
    windows handed = (
      p.more ++ windows_in last,
      HandedOver-append took watch middle watch_now p.more (windows_in last) p.handed handed,
      told-ended took s settled now last watch middle left settles.on.config settles.on.stays settles.stands p same
          (ended ∙ settles.ended) config chosen (λ given blocks stood choice. (ending given blocks stood choice).0)
          windows,
    )
