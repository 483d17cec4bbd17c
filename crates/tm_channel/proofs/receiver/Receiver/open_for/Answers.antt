use Rattle.std.proofs.Common.{◌≡◌, ◌≤◌, ◌∙◌, ◌++◌, ℕ, false, [], List, Bool, Option, Some, None, inr, length, sym, ap, subst, refl, arith}
use Rattle.tm_base.specs.Handed.{items_of}
use Rattle.tm_config.specs.Configuration.{Configuration}
use Rattle.tm_conv.specs.declared.rates.Rate.{Rate}
use Rattle.tm_windows.specs.declared.choosing.Chosen.{Chosen}
use Rattle.tm_inner.specs.Handing.{AreHandedDue}
use Rattle.tm_inner.specs.Inner.{inner_bits}
use Rattle.tm_inner.specs.InnerDecoding.{InnerDecoderStandsFor}
use Rattle.tm_inner.specs.Phase.{skip_of, with_phase}
use Rattle.tm_inner.specs.Receiving.{HasHanded}
use Rattle.tm_inner.specs.SymbolPlaces.{symbol_at}
use Rattle.tm_inner.proofs.DecodedWindows.{decoded-drained}
use Rattle.tm_inner.proofs.HandedBits.{handed-due-none}
use Rattle.tm_inner.proofs.PhasePieces.{items_of-with_phase}
use Rattle.tm_inner.proofs.PlainBits.{bits-nil}
use Rattle.tm_sync.specs.declared.found.Found.{Found}
use Rattle.tm_sync.specs.Finding.{Finding, Recent}
use Rattle.tm_channel.specs.Items.{ItemValue, AreItemsOf}
use Rattle.tm_channel.specs.Due.{due}
use Rattle.tm_channel.specs.OctetReceiving.{AreKnown, AwaitsBits, BitReceiverStandsFor, Stages, StagesFor}
use Rattle.tm_channel.specs.declared.bit_receiver.BitReceiver.{BitReceiver}
use Rattle.tm_channel.specs.Origins.{AreAt, AreSpaced, Noted}
use Rattle.tm_channel.specs.Receiving.{Batching}
use Rattle.tm_channel.proofs.AllBits.{due-nil}
use Rattle.tm_channel.proofs.GivenOctets.{read-now}
use Rattle.tm_channel.proofs.Holding.{no_batch, ready-fills, ready-new, stands-all}
use Rattle.tm_channel.proofs.PhasedItems.{same-phase}
use Rattle.tm_channel.proofs.Streaming.{stands-new}
use Rattle.tm_channel.proofs.receiver.Receiver.open_for.Goals as goal

-- of no bits
fresh-known : (rate : Option Rate) (c : Configuration) (at : ℕ → ℕ) (count : ℕ) (r : BitReceiver) → count ≡ 0
    → r.origins.origins ≡ [] → AreKnown rate c at count r
fresh-known None c at count r none unnoted = tt
fresh-known (Some rate) c at count r none unnoted = (
  subst (AreSpaced c.keep count) (sym unnoted) tt,
  λ n above below. absurd (omega (arith, below, none)),
)

stands-fresh : (s : Stages) → 1 ≤ s.inner.config.keep → s.bits.batch.config ≡ s.inner.config
    → s.inner.has_ended ≡ false → HasHanded s.inner [] [] → BitReceiverStandsFor s.bits [] → s.bits.batch.symbols ≡ []
    → s.bits.origins.origins ≡ [] → StagesFor s [] []
stands-fresh s some of going inner bits nothing unnoted =
    let c = s.inner.config in
    let at = symbol_at c (skip_of s.inner.chosen) [] in
    let none : inner_bits c [] [] ≡ [] = bits-nil c.inner c in
    let no_phase = same-phase _ None inner.read.blocks [] (sym inner.read.are) in
    let no_blocks = sym (items_of-with_phase _ inner.read.blocks) ∙ ap items_of (sym inner.read.are) in
    record {
      going = going;
      all = inner.all;
      so_far = inner.so_far;
      blocks = [];
      progress = record {
        of = (refl, of);
        inner = subst (InnerDecoderStandsFor s.inner []) no_blocks inner.read.stands;
        items = [];
        searched = record {
          stands = subst (BitReceiverStandsFor s.bits) (sym none) bits;
          are_items = subst (λ (l : List Bool). AreItemsOf c l (due c l) []) (sym none)
              (subst (λ (fs : List Found). AreItemsOf c [] fs []) (sym (due-nil c)) tt);
          stored = subst (AreAt at (length (inner_bits c [] []))) (sym nothing) tt;
          said = tt;
        };
        known = fresh-known c.inner c at (length (inner_bits c [] [])) s.bits (ap length none) unnoted;
        read = inner.read.read;
        first = λ unread. inr refl;
        are = ap (λ (o : Option Chosen). with_phase {I = ItemValue} o []) (sym no_phase);
      };
      waiting = [];
      are_due = subst (λ (o : Option Chosen). AreHandedDue c [] (with_phase o [] ++ []))
          (sym (sym (read-now s.inner.has_phase s.inner.chosen inner.all) ∙ no_phase)) (handed-due-none c some);
      few = omega arith;
      none_due = refl;
    }

-- what receives its bits, with this batch
abbrev receives : Finding → Recent → Noted → Batching → BitReceiver
receives finder recent origins batch =
    record { finder = finder; recent = recent; batch = batch; origins = origins }

pub invariant_of-result : goal.invariant_of-result
invariant_of-result c =
    let k = c.args.config in
    let finder = c.in-Ok-open_search.finder in
    let recent = c.in-Ok-open_search.recent in
    let e = c.in-Ok-open_search.ensures in
    let ready = ready-new k finder recent e.finder e.recent e.sized (omega (arith, e.accepted.some_batch)) in (
      c.in-Ok.ensures.config,
      ap (λ (b : Batching). b.config) c.in-Ok-open.ensures,
      e.accepted,
      λ _. subst (λ (b : Batching). AwaitsBits (receives finder recent c.in-Ok-open-2.origins b))
          (sym c.in-Ok-open.ensures) (record {
            fills = ready-fills finder recent (no_batch k) ready;
            reaches = c.in-Ok-open-2.ensures.reaches;
            short = λ _. ready.short;
          }),
    )

pub returns-clause-stands : goal.returns-clause-stands
returns-clause-stands c =
    let k = c.args.config in
    let inner = c.in-Ok.inner in
    let finder = c.in-Ok-open_search.finder in
    let recent = c.in-Ok-open_search.recent in
    let origins = c.in-Ok-open-2.origins in
    let e = c.in-Ok-open_search.ensures in
    subst (λ (b : Batching). StagesFor (record { inner = inner; bits = receives finder recent origins b }) [] [])
    (sym c.in-Ok-open.ensures)
    (stands-fresh (record { inner = inner; bits = receives finder recent origins (no_batch k) })
    (omega (arith, e.accepted.some_keep, ap (λ (k : Configuration). k.keep) c.in-Ok.ensures.config))
    (sym c.in-Ok.ensures.config) c.in-Ok.ensures.going c.in-Ok.ensures.stands
    (stands-all finder recent (no_batch k) [] (stands-new k finder recent.bits e.finder e.recent)) refl
    c.in-Ok-open-2.ensures.none)

pub returns-clause-decoded : goal.returns-clause-decoded
returns-clause-decoded c = decoded-drained c.in-Ok.inner c.in-Ok.ensures.stands.drained
