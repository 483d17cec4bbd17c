-- What was received of the octets that were read.
use Rattle.std.proofs.Common.{◌≡◌, inl, inr, ℕ, ◌+◌, ◌*◌, ◌<◌, ◌≤◌, Bool, List, [], ◌∷◌, ◌++◌, length, refl, sym, ap, ◌∙◌, subst, append_assoc, arith, None, length-append, length-take}
use Rattle.tm_base.specs.Handed.{Handed, items_of}
use Rattle.tm_base.specs.Limits.{most_limit}
use Rattle.tm_base.specs.Takers.{HandedOver}
use Rattle.tm_base.proofs.Handing.{HandedOver-append}
use Rattle.tm_config.specs.Accepted.{IsAccepted}
use Rattle.tm_config.proofs.Choices.{never_both, given_or_find}
use Rattle.tm_config.specs.declared.values.Sought.TheVariants.{Find}
use Rattle.tm_config.specs.Configuration.{Configuration}
use Rattle.tm_inner.specs.Inner.{Inner, AreInnerDue, inner_bits}
use Rattle.tm_inner.specs.Phase.{WithPhase, IsSettled, skip_of}
use Rattle.tm_inner.proofs.FewBits.{first-few, whole-few, first-of-due, due-none as no-blocks}
use Rattle.tm_inner.proofs.GivenPieces.{few-soft}
use Rattle.tm_inner.proofs.HandedPieces.{needed-some}
use Rattle.tm_inner.proofs.PhasePieces.{items_of-with_phase}
use Rattle.tm_sync.specs.declared.found.Found.{Found}
use Rattle.tm_viterbi.specs.WindowSizes.{stream_bound}
use Rattle.tm_channel.proofs.Apart.{places_in-count}
use Rattle.tm_codeblock.specs.ReceivedCodeblock.{places_in}
use Rattle.tm_channel.specs.Due.{due_count, due}
use Rattle.tm_channel.specs.Items.{ItemValue, AreItemsOf}
use Rattle.tm_channel.specs.Receive.{ReceiveDue}
use Rattle.tm_channel.specs.declared.totals.Totals.{Totals}
use Rattle.tm_channel.specs.Handing.{ReceiveAll, AreReceived, AreReceivedDue}
use Rattle.tm_channel.specs.OctetReceiving.{OctetReceiving, ReceiverStandsFor}
use Rattle.tm_driver.specs.Lines.{slips_text}
use Rattle.tm_driver.specs.Writing.{Text, Note}
use Rattle.tm_driver.specs.declared.ending.Outcome.{Outcome}
use Rattle.tm_cli.specs.Lines.{report_end_text, totals_text}
use Rattle.tm_cli.specs.Receiving.{Decodes, DecodesAll, HandedDue}
use Rattle.tm_cli.specs.Taken.{AreCounted, CountedHanded, IsOutcome, no_counts, texts_by, texts_from}
use Rattle.tm_cli.specs.declared.counts.Counts.{Counts}
use Rattle.tm_cli.proofs.GivenTexts.{Given, counted-all, texts_by-append}

-- ---- items are at most as many as the bits of the octets

all-count : (c : Configuration) (bits : List Bool) (fs : List Found) (items : List ItemValue)
    → AreItemsOf c bits fs items → length items ≤ length fs
all-count c bits [] [] are = omega arith
all-count c bits [] (item ∷ items) are = absurd are
all-count c bits (f ∷ fs) [] are = absurd are
all-count c bits (f ∷ fs) (item ∷ items) are = omega (arith, all-count c bits fs items are.1)

-- and so are the places of those that are due
few-places : (c : Configuration) (octets : List ℕ) (bits : List Bool) → length bits ≤ 8 * length octets
    → length (due c bits) ≤ 8 * length octets
few-places c octets bits few =
    let fs = places_in c bits in
    omega (arith, length-take (due_count c bits) fs, places_in-count c bits, few)

few-due : (c : Configuration) (octets : List ℕ) (phase : ℕ) (items : List ItemValue) → ReceiveDue c phase octets items
    → length items ≤ 8 * length octets
few-due c octets phase items r =
    let bits = inner_bits c octets r.blocks in
    let few = few-places c octets bits (first-few c phase octets r.blocks
    (first-of-due c phase octets r.blocks r.are_due)) in
    omega (arith, all-count c bits (due c bits) items r.are_items, few)

few-bits : (c : Configuration) (octets : List ℕ) (phase : ℕ) (bits : List Bool) → Inner c phase octets bits
    → length bits ≤ 8 * length octets
few-bits c octets phase bits inner =
    omega (arith, ap length inner.are_bits, whole-few c phase octets inner.blocks inner.left inner.are_blocks)

few-all : (c : Configuration) (totals : Totals) (octets : List ℕ) (phase : ℕ) (items : List ItemValue)
    → ReceiveAll c phase octets totals items → length items ≤ 8 * length octets
few-all c totals octets phase items r =
    omega (
      arith,
      all-count c r.0 (places_in c r.0) items r.3,
      places_in-count c r.0,
      few-bits c octets phase r.0 r.1,
    )

-- the same of what is handed over, with any phase before them
few-with_phase : (AreItems : ℕ → List ItemValue → Type 0) (c : Configuration) (octets : List ℕ)
    (handed : List (Handed ItemValue)) (most : ℕ)
    → ((phase : ℕ) (items : List ItemValue) → AreItems phase items → length items ≤ most)
    → WithPhase AreItems c octets handed → length (items_of handed) ≤ most
few-with_phase AreItems c octets handed most few phased =
    let items : items_of handed ≡ phased.items = ap items_of phased.are
    ∙ items_of-with_phase phased.chosen phased.items in
    omega (arith, ap length items, few (skip_of phased.chosen) phased.items phased.are_items)

few-received_due : (c : Configuration) (octets : List ℕ) (handed : List (Handed ItemValue))
    → AreReceivedDue c octets handed → length (items_of handed) ≤ 8 * length octets
few-received_due c octets handed (inl none) = omega (arith, ap (λ l. length (items_of l)) none.1)
few-received_due c octets handed (inr phased) =
    few-with_phase (λ phase. ReceiveDue c phase octets) c octets handed (8 * length octets) (few-due c octets) phased.1

few-received : (c : Configuration) (totals : Totals) (octets : List ℕ) (handed : List (Handed ItemValue))
    → AreReceived c octets handed totals → length (items_of handed) ≤ 8 * length octets
few-received c totals octets handed =
    few-with_phase (λ phase. ReceiveAll c phase octets totals) c octets handed (8 * length octets)
    (few-all c totals octets)

-- ---- for no octets nothing is due

no-items : (c : Configuration) (bits : List Bool) (fs : List Found) → length fs ≤ 0 → AreItemsOf c bits fs []
no-items c bits [] none = tt
no-items c bits (f ∷ fs) none = absurd (omega (arith, none))

none-settled : (c : Configuration) → IsAccepted c → c.phase ≡ Find → IsSettled c [] → ⊥
none-settled c accepted find (inl given) = never_both c.phase given find
none-settled c accepted find (inr many) = let keep = accepted.some_keep in omega
    (arith, many, few-soft c [], needed-some c.inner c (omega arith))

none-due : (c : Configuration) → IsAccepted c → AreReceivedDue c [] []
none-due c accepted = elim (given_or_find c.phase) as (λ _. AreReceivedDue c [] []) [
  | inl given ↦ (
      let blocks : AreInnerDue c 0 [] [] = no-blocks c in
      let bits = inner_bits c [] [] in
      let items = no-items c bits (due c bits) (few-places c [] bits
      (first-few c 0 [] [] (first-of-due c 0 [] [] blocks))) in
      inr (
        inl given,
        record {
          chosen = None;
          choice = given;
          items = [];
          are_items = record { blocks = []; are_due = blocks; are_items = items; symbols = tt };
          are = refl;
        },
      )
      )
  | inr find ↦ inl (none-settled c accepted find, refl)
]

-- a receiver that was given nothing has handed over nothing
pub due-none : (c : Configuration) (receiver : OctetReceiving) → IsAccepted c → receiver.config ≡ c
    → ReceiverStandsFor receiver [] [] → HandedDue c receiver no_counts []
due-none c receiver accepted same stands = record {
  handed = [];
  config = same;
  counted = refl;
  stands = λ _. (stands, none-due c accepted);
}

-- ---- more octets, and the end

pub due-more : (c : Configuration) (before now : OctetReceiving) (counts counts_now : Counts) (given octets : List ℕ)
    (more : List (Handed ItemValue)) → now.config ≡ before.config
    → ((given : List ℕ) (done : List (Handed ItemValue)) → length given + length octets < stream_bound
    → ReceiverStandsFor before given done → ReceiverStandsFor now (given ++ octets) (done ++ more)
    × AreReceivedDue before.config (given ++ octets) (done ++ more))
    → HandedOver CountedHanded counts more counts_now
    → HandedDue c before counts given → HandedDue c now counts_now (given ++ octets)
due-more c before now counts counts_now given octets more same stands counted was =
    let long = length-append given octets in record {
      handed = was.handed ++ more;
      config = same ∙ was.config;
      counted = HandedOver-append CountedHanded no_counts counts counts_now was.handed more was.counted counted;
      stands = λ few.
          let go = stands given was.handed (omega (arith, few, long)) (was.stands (omega (arith, few, long))).0 in (
            go.0,
            subst (λ (k : Configuration). AreReceivedDue k (given ++ octets) (was.handed ++ more)) was.config go.1,
          );
    }

-- the texts of all that is due
pub due-texts : (c : Configuration) (receiver : OctetReceiving) (counts : Counts) (octets : List ℕ)
    → length octets ≤ most_limit → (d : HandedDue c receiver counts octets)
    → texts_by no_counts d.handed ≡ texts_from 0 d.handed
due-texts c receiver counts octets small d =
    (counted-all d.handed counts octets (few-received_due c octets d.handed (d.stands small).1) small d.counted).0

pub all-handed : (c : Configuration) (receiver : OctetReceiving) (counts counts_now : Counts) (octets : List ℕ)
    (last : List (Handed ItemValue)) (totals : Totals) → length octets ≤ most_limit
    → ((given : List ℕ) (done : List (Handed ItemValue)) → ReceiverStandsFor receiver given done
    → AreReceived receiver.config given (done ++ last) totals)
    → HandedOver CountedHanded counts last counts_now → (d : HandedDue c receiver counts octets)
    → AreReceived c octets (d.handed ++ last) totals
    × (texts_by no_counts (d.handed ++ last) ≡ texts_from 0 (d.handed ++ last))
    × AreCounted (items_of (d.handed ++ last)) counts_now
all-handed c receiver counts counts_now octets last totals small finish counted d =
    let all = d.handed ++ last in
    let received = subst (λ (k : Configuration). AreReceived k octets all totals) d.config
    (finish octets d.handed (d.stands small).0) in
    let are = counted-all all counts_now octets (few-received c totals octets all received) small
    (HandedOver-append CountedHanded no_counts counts counts_now d.handed last d.counted counted) in
    (received, are.0, are.1)

-- ---- the texts

pub decodes-none : (receiver : OctetReceiving) (counts : Counts) → IsAccepted receiver.config
    → ReceiverStandsFor receiver [] [] → counts ≡ no_counts → Decodes receiver.config receiver counts [] []
unfolding due-none
decodes-none receiver counts accepted stands new = subst
    (λ (k : Counts). Decodes receiver.config receiver k [] []) (sym new)
    (record { due = due-none receiver.config receiver accepted refl stands; are = refl })

pub decodes-more : {T : Type 0} (took : T → Text → T → Type 0) (before now : OctetReceiving)
    (counts counts_now : Counts) (taker taker_now : T) (octets : List ℕ) (more : List (Handed ItemValue))
    → now.config ≡ before.config
    → ((given : List ℕ) (done : List (Handed ItemValue)) → length given + length octets < stream_bound
    → ReceiverStandsFor before given done → ReceiverStandsFor now (given ++ octets) (done ++ more)
    × AreReceivedDue before.config (given ++ octets) (done ++ more))
    → Given took counts counts_now taker taker_now more
    → (c : Configuration) (given : List ℕ) (done : List Text) → Decodes c before counts given done
    → Decodes c now counts_now (given ++ octets) (done ++ texts_by counts more)
unfolding due-more
decodes-more took before now counts counts_now taker taker_now octets more same stands g c given done d = record {
  due = due-more c before now counts counts_now given octets more same stands g.counted d.due;
  are = ap (λ l. l ++ texts_by counts more) d.are
      ∙ sym (texts_by-append d.due.handed more no_counts counts d.due.counted);
}

pub decodes-end : {T : Type 0} (took : T → Text → T → Type 0) (receiver : OctetReceiving)
    (counts counts_now : Counts) (taker taker_now : T) (last : List (Handed ItemValue)) (totals : Totals) (by : Outcome)
    → ((given : List ℕ) (done : List (Handed ItemValue)) → ReceiverStandsFor receiver given done
    → AreReceived receiver.config given (done ++ last) totals)
    → IsOutcome counts_now.bad by → Given took counts counts_now taker taker_now last
    → (c : Configuration) (given : List ℕ) (done : List Text) → length given ≤ most_limit
    → Decodes c receiver counts given done
    → DecodesAll c given (done ++ (texts_by counts last ++ Note (totals_text counts_now totals) ∷ [])) by
decodes-end took receiver counts counts_now taker taker_now last totals by finish is g c given done small d =
    let handed = d.due.handed in
    let all = all-handed c receiver counts counts_now given last totals small finish g.counted d.due in
    let end = Note (totals_text counts_now totals) ∷ [] in
    record {
      handed = handed ++ last;
      totals = totals;
      are_received = all.0;
      are = sym (append_assoc done (texts_by counts last) end)
          ∙ ap (λ l. (l ++ texts_by counts last) ++ end) d.are
          ∙ ap (λ l. l ++ end) (sym (texts_by-append handed last no_counts counts d.due.counted))
          ∙ (λ i. all.1 i ++ Note (slips_text totals.slips
          ++ report_end_text (all.2.good i) (all.2.bad i) (all.2.fixed i) totals.bits) ∷ []);
      is_outcome = subst (λ (n : ℕ). IsOutcome n by) all.2.bad is;
    }
