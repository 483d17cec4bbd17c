-- What `decode` makes of octets in which frames were sent, from the laws of what is received.
use Rattle.std.proofs.Common.{◌≡◌, ◌⊎◌, ℕ, zero, suc, ◌+◌, ◌-◌, ◌*◌, Bool, true, false, if◌then◌else◌, List, [], ◌∷◌, ◌++◌, length, map, replicate, Option, Some, None, refl, sym, ap, ◌∙◌, subst, arith}
use Rattle.std.specs.List.{concat}
use Rattle.std.proofs.lemmas.List.{length-map}
use Rattle.tm_base.specs.Bits.{AreOctets}
use Rattle.tm_base.specs.Handed.{Handed, Item, items_of}
use Rattle.tm_base.specs.Written.{Wrote}
use Rattle.tm_config.specs.Configuration.{Configuration, codeblock_length, is_uncoded}
use Rattle.tm_viterbi.specs.declared.block.Start.TheVariants.{Any}
use Rattle.tm_conv.specs.declared.rates.Rate.TheVariants.{R12}
use Rattle.tm_config.specs.declared.values.Sought.TheVariants.{Find}
use Rattle.tm_config.specs.Accepted.{IsAccepted}
use Rattle.tm_conv.specs.declared.rates.Rate.{Rate}
use Rattle.tm_windows.specs.declared.choosing.Chosen.{Chosen}
use Rattle.tm_viterbi.specs.WindowBlock.{WindowBlock}
use Rattle.tm_inner.specs.Inner.{AreInnerBlocks, BlocksAt, Inner, IsStartKnown, plain_count, reported_slips}
use Rattle.tm_inner.specs.Phase.{IsChosen, PhaseAt, phase_octets, skip_of, with_phase}
use Rattle.tm_inner.specs.SymbolPlaces.{symbol_at}
use Rattle.tm_inner.proofs.PhasePieces.{items_of-with_phase}
use Rattle.tm_inner.proofs.WithPhase.{OnePhase, one-choice}
use Rattle.tm_inner.proofs.ReceivedBits.{bits-plain}
use Rattle.tm_rs.specs.declared.answers.Answer.{Answer}
use Rattle.tm_rs.specs.declared.answers.Answer.TheVariants.{Fixed}
use Rattle.tm_sync.specs.declared.found.Found.{Found}
use Rattle.tm_viterbi.specs.Clean.{complemented_octets}
use Rattle.tm_codeblock.specs.Frames.{whole_frames}
use Rattle.tm_codeblock.specs.ReceivedCodeblock.{places_in, received_columns}
use Rattle.tm_channel.specs.Sent.{cadus, sent, sent_phase}
use Rattle.tm_channel.specs.Items.{ItemValue, HaveSymbols, are_fixed, frames_of, complemented_item}
use Rattle.tm_channel.specs.declared.totals.Totals.{Totals}
use Rattle.tm_channel.specs.Handing.{AreReceived, clean_totals, totals_of}
use Rattle.tm_channel.specs.Receive.{Receive}
use Rattle.tm_channel.specs.SentStream.{SentUnit, AreRepaired, AreWithin, AreAsSent, AreNear, sent_columns, unit_codeblock, unit_places, clean_answers, clean_items, found_frames}
use Rattle.tm_channel.proofs.ReceivedOctets.{SentItems, SentFrames}
use Rattle.tm_channel.proofs.SentPhase.{sent-skip}
use Rattle.tm_channel.proofs.SoundItems.{FoundItems}
use Rattle.tm_channel.proofs.Symbols.{have-said, items-said, said}
use Rattle.tm_driver.specs.Lines.{phase_text, slips_text}
use Rattle.tm_cli.specs.Lines.{item_text, report_end_text}
use Rattle.tm_driver.specs.Meaning.{Ends, Taken, WroteOutput}
use Rattle.tm_driver.specs.Statuses.{status_of}
use Rattle.tm_driver.specs.declared.ending.Ending.{Ending}
use Rattle.tm_driver.specs.declared.ending.Ending.TheVariants.{Done, Bad, BadWindow, LeftOver, SourceFault, SinkFault, PastLimit}
use Rattle.tm_cli.specs.Decode.{HasBad, decode_meaning}
use Rattle.tm_cli.specs.Report.{bad, fixed, fixed_of, good, items_end_text, items_text, report_text}
use Rattle.tm_cli.specs.Link.{KeepsCleanLink, KeepsDisturbedLink, KeepsComplementedInput, KeepsComplementedSymbols, KeepsFound}

-- octets come to one list of bits, of blocks and of items
abbrev OneBits : Type 0
OneBits =
    (c : Configuration) (phase : ℕ) (octets : List ℕ) (bits others : List Bool) → Inner c phase octets bits
    → Inner c phase octets others → bits ≡ others

abbrev OneBlocks : Type 0
OneBlocks = (c : Configuration) (phase : ℕ) (octets : List ℕ) (blocks others : List WindowBlock) (left rest : ℕ)
    → AreInnerBlocks c phase octets blocks left → AreInnerBlocks c phase octets others rest → blocks ≡ others

abbrev OneItems : Type 0
OneItems = (c : Configuration) (phase : ℕ) (octets : List ℕ) (items others : List ItemValue) → IsAccepted c
    → Receive c phase octets items → Receive c phase octets others → items ≡ others

-- and what is handed over is one list
abbrev OneHanded : Type 0
OneHanded =
    (c : Configuration) (octets : List ℕ) (handed others : List (Handed ItemValue)) (totals sums : Totals)
    → IsAccepted c
    → AreReceived c octets handed totals → AreReceived c octets others sums → handed ≡ others

-- the phase of what is sent for octets, and of that complemented
abbrev SentPhase : Type 0
SentPhase =
    (c : Configuration) (octets : List ℕ) (chosen : Option Chosen) → c.skip ≡ 0 → IsChosen c (sent c octets) chosen
    → chosen ≡ sent_phase c

abbrev ComplementedPhase : Type 0
ComplementedPhase =
    (c : Configuration) (octets : List ℕ) (chosen : Option Chosen) → c.skip ≡ 0
    → IsChosen c (complemented_octets (sent c octets)) chosen → chosen ≡ sent_phase c

-- what the octets come to that are sent for others, and complemented
abbrev CleanTotals : Type 0
CleanTotals =
    (c : Configuration) (octets : List ℕ) (handed : List (Handed ItemValue)) (totals : Totals) → IsAccepted c
    → c.skip ≡ 0 → IsStartKnown c
    → AreReceived c (sent c octets) handed totals → totals ≡ clean_totals c (8 * length (cadus c octets))

abbrev ComplementedTotals : Type 0
ComplementedTotals =
    (c : Configuration) (octets : List ℕ) (handed : List (Handed ItemValue)) (totals : Totals) → IsAccepted c
    → c.inner ≡ Some R12
    → c.start ≡ Any → c.skip ≡ 0 → AreReceived c (complemented_octets (sent c octets)) handed totals
    → totals ≡ clean_totals c (8 * length (cadus c octets))

-- the items of what is sent for octets, and the frames of these items
abbrev CleanItems : Type 0
CleanItems =
    (c : Configuration) (octets : List ℕ) (items : List ItemValue) → IsAccepted c → c.skip ≡ 0 → IsStartKnown c
    → AreOctets octets
    → Receive c 0 (sent c octets) items → items ≡ clean_items c 0 (found_frames c (whole_frames c.frame_length octets))

abbrev CleanFrames : Type 0
CleanFrames =
    (c : Configuration) (at : ℕ) (frames : List (List ℕ)) → frames_of (clean_items c at frames) ≡ concat frames

-- the items of octets complemented, with no inner code and of symbols at rate 1/2
abbrev ComplementedItems : Type 0
ComplementedItems = (c : Configuration) (phase : ℕ) (octets : List ℕ) (items : List ItemValue) → IsAccepted c
    → c.inner ≡ None → c.polarity ≡ Find → AreOctets octets
    → Receive c phase octets items → Receive c phase (complemented_octets octets) (map complemented_item items)

abbrev ComplementedSymbols : Type 0
ComplementedSymbols = (c : Configuration) (octets : List ℕ) (items : List ItemValue) → IsAccepted c → c.inner ≡ Some R12
    → c.polarity ≡ Find → c.start ≡ Any → c.skip ≡ 0 → AreOctets octets
    → Receive c 0 (complemented_octets (sent c octets)) items
    → items ≡ map complemented_item (clean_items c 0 (found_frames c (whole_frames c.frame_length octets)))

-- ---- no column is uncorrectable

all-fixed : (count : ℕ) → are_fixed (replicate count (Fixed 0)) ≡ true
all-fixed zero = refl
all-fixed (suc count) = all-fixed count

clean-fixed : (uncoded : Bool) (count : ℕ) → are_fixed (if uncoded then [] else replicate count (Fixed 0)) ≡ true
clean-fixed true count = refl
clean-fixed false count = all-fixed count

-- a codeblock with no such column adds none to those that have one
one-good : (fixed : Bool) (rest : ℕ) → fixed ≡ true → rest ≡ 0 → (if fixed then 0 else 1) + rest ≡ 0
one-good true rest is none = omega arith
one-good false rest is none = cc

-- of frames with nothing wrong
clean-good : (c : Configuration) (at : ℕ) (frames : List (List ℕ)) → bad (clean_items c at frames) ≡ 0
clean-good c at [] = refl
clean-good c at (frame ∷ frames) =
    one-good (are_fixed (clean_answers c)) (bad (clean_items c (at + 32 + 8 * codeblock_length c) frames))
    (clean-fixed (is_uncoded c.code) c.depth)
    (clean-good c (at + 32 + 8 * codeblock_length c) frames)

-- of columns that are disturbed within the bound
near-fixed : (bound : ℕ) (columns others : List (List ℕ)) (answers : List Answer)
    → AreRepaired bound columns others answers → AreWithin bound columns others
    → are_fixed answers ≡ true
near-fixed bound columns others [] repaired within = refl
near-fixed bound [] [] (answer ∷ answers) repaired within = absurd repaired
near-fixed bound [] (other ∷ others) (answer ∷ answers) repaired within = absurd repaired
near-fixed bound (column ∷ columns) [] (answer ∷ answers) repaired within = absurd repaired
near-fixed bound (column ∷ columns) (other ∷ others) (answer ∷ answers) repaired within =
    subst (λ (a : Answer). are_fixed (a ∷ answers) ≡ true) (sym (repaired.0 within.0))
    (near-fixed bound columns others answers repaired.1 within.1)

near-good : (c : Configuration) (fs : List Found) (units : List SentUnit) (items : List ItemValue)
    → AreAsSent c fs units items → AreNear c fs units → bad items ≡ 0
near-good c fs units [] are near = refl
near-good c [] [] (item ∷ items) are near = absurd are
near-good c [] (u ∷ units) (item ∷ items) are near = absurd are
near-good c (f ∷ fs) [] (item ∷ items) are near = absurd are
near-good c (f ∷ fs) (u ∷ units) (item ∷ items) are near =
    one-good (are_fixed item.answers) (bad items)
    (near-fixed c.repair (received_columns c (unit_codeblock c f u))
    (sent_columns c u.frame) item.answers are.0.answers near.0.columns)
    (near-good c fs units items are.1 near.1)

-- ---- items in the other polarity

frames-complemented : (items : List ItemValue) → frames_of (map complemented_item items) ≡ frames_of items
frames-complemented [] = refl
frames-complemented (item ∷ items) = ap (λ l. item.frame ++ l) (frames-complemented items)

bad-complemented : (items : List ItemValue) → bad (map complemented_item items) ≡ bad items
bad-complemented [] = refl
bad-complemented (item ∷ items) = ap (λ n. (if are_fixed item.answers then 0 else 1) + n) (bad-complemented items)

-- ---- no line shows a symbol, and no frame does

frames-said : (at : ℕ → ℕ) (items : List ItemValue) → frames_of (map (said at) items) ≡ frames_of items
frames-said at [] = refl
frames-said at (item ∷ items) = ap (λ l. item.frame ++ l) (frames-said at items)

-- the lines and the counts are those of the items without their symbols
lines-said : (at : ℕ → ℕ) (number : ℕ) (items : List ItemValue)
    → (items_text number (map Item (map complemented_item (map (said at) items)))
    ≡ items_text number (map Item (map complemented_item items)))
    × (good (map complemented_item (map (said at) items)) ≡ good (map complemented_item items))
    × (bad (map complemented_item (map (said at) items)) ≡ bad (map complemented_item items))
    × (fixed (map complemented_item (map (said at) items)) ≡ fixed (map complemented_item items))
lines-said at number [] = (refl, refl, refl, refl)
lines-said at number (item ∷ items) =
    let more = lines-said at (number + 1) items in (
      ap (λ l. item_text number (complemented_item item) ++ l) more.0,
      ap (λ n. (if are_fixed item.answers then 1 else 0) + n) more.1,
      ap (λ n. (if are_fixed item.answers then 0 else 1) + n) more.2,
      ap (λ n. fixed_of item.answers + n) more.3,
    )

phased-said : (at : ℕ → ℕ) (chosen : Option Chosen) (items : List ItemValue)
    → items_text 0 (with_phase chosen (map complemented_item (map (said at) items)))
    ≡ items_text 0 (with_phase chosen (map complemented_item items))
phased-said at None items = (lines-said at 0 items).0
phased-said at (Some chosen) items = ap (λ l. phase_text chosen.skip chosen.cost ++ l) (lines-said at 0 items).0

report-said : (at : ℕ → ℕ) (chosen : Option Chosen) (items : List ItemValue) (totals : Totals)
    → report_text (with_phase chosen (map complemented_item (map (said at) items))) totals
    ≡ report_text (with_phase chosen (map complemented_item items)) totals
report-said at chosen items totals =
    let xs = map complemented_item (map (said at) items) in
    let ys = map complemented_item items in
    let same = lines-said at 0 items in
    ap (λ (l : List ItemValue). items_text 0 (with_phase chosen xs) ++ items_end_text l totals)
    (items_of-with_phase chosen xs)
    ∙ (λ i. phased-said at chosen items i ++ (slips_text totals.slips
    ++ report_end_text (same.1 i) (same.2 i) (same.3 i) totals.bits))
    ∙ sym (ap (λ (l : List ItemValue). items_text 0 (with_phase chosen ys) ++ items_end_text l totals)
    (items_of-with_phase chosen ys))

-- ---- octets of the same length

-- with no inner code they come to the same
same-totals : (c : Configuration) (phase : ℕ) (octets others : List ℕ) (bits more : List Bool) → c.inner ≡ None
    → length octets ≡ length others
    → (a : Inner c phase octets bits) (b : Inner c phase others more)
    → totals_of c bits a.blocks ≡ totals_of c more b.blocks
same-totals c phase octets others bits more plain long a b =
    let n : ℕ = length others in
    let m : ℕ = plain_count c n - c.skip in
    let count : length bits ≡ length more = ap length a.are_bits
    ∙ sym (bits-plain c n m octets a.blocks plain long refl)
    ∙ bits-plain c n m others b.blocks plain refl refl ∙ sym (ap length b.are_bits) in
    let none : a.blocks ≡ b.blocks = no-blocks c phase octets a.blocks a.left plain a.are_blocks
    ∙ sym (no-blocks c phase others b.blocks b.left plain b.are_blocks) in
    λ i. record { bits = count i; slips = reported_slips c (none i) }
  where
    no-blocks : (c : Configuration) (phase : ℕ) (octets : List ℕ) (blocks : List WindowBlock) (left : ℕ)
        → c.inner ≡ None
        → AreInnerBlocks c phase octets blocks left → blocks ≡ []
    no-blocks c phase octets blocks left plain are =
        (subst (λ (r : Option Rate). BlocksAt r c phase octets blocks left) plain are).0

-- with no inner code the phase hangs on no octet
phase-plain : (rate : Option Rate) (c : Configuration) (soft others : List ℕ) (chosen : Chosen) → rate ≡ None
    → PhaseAt rate c soft chosen → PhaseAt rate c others chosen
phase-plain None c soft others chosen is p = p
phase-plain (Some rate) c soft others chosen is p = absurd (cc)

choice-plain : (c : Configuration) (octets others : List ℕ) (chosen : Option Chosen) → c.inner ≡ None
    → IsChosen c octets chosen → IsChosen c others chosen
choice-plain c octets others None none is = is
choice-plain c octets others (Some chosen) none is =
    (is.0, phase-plain c.inner c (phase_octets c octets) (phase_octets c others) chosen none is.1)

-- ---- what was written

-- What `decode` wrote for octets with this phase: the frames and the report of the items that are
-- received. Where none of these has a
-- column uncorrectable, the status is 0.
record Came (status : ℕ) (c : Configuration) (octets : List ℕ) (chosen : Option Chosen)
    (taken : Taken) : Type 0 where
  bits : List Bool
  items : List ItemValue
  inner : Inner c (skip_of chosen) octets bits
  receive : Receive c (skip_of chosen) octets items
  out : Wrote taken.out taken.out_now (frames_of items)
  handed : List (Handed ItemValue)
  totals : Totals
  received : AreReceived c octets handed totals
  counted : totals ≡ totals_of c bits inner.blocks
  notes : Wrote taken.notes taken.notes_now (report_text (with_phase chosen items) totals)
  good : bad items ≡ 0 → status ≡ 0

-- the whole output is written, and the status is 0 where nothing is uncorrectable
whole-output : (e : Ending) (status : ℕ) (c : Configuration) (octets : List ℕ) (taken : Taken) → status ≡ status_of e
    → Ends e (decode_meaning c) c.limit octets taken → (status ≡ 0) ⊎ (status ≡ 1)
    → WroteOutput (decode_meaning c) octets taken × ((HasBad c octets → ⊥) → status ≡ 0)
whole-output Done status c octets taken said ends read = (ends.0, λ good. said)
whole-output Bad status c octets taken said ends read = (ends.0, λ good. absurd (good ends.2))
whole-output LeftOver status c octets taken said ends read = absurd ends.2
whole-output BadWindow status c octets taken said ends read = absurd ends.0
whole-output SourceFault status c octets taken said ends read = absurd (omega (arith, said, read))
whole-output SinkFault status c octets taken said ends read = absurd (omega (arith, said, read))
whole-output PastLimit status c octets taken said ends read = absurd (omega (arith, said, read))

-- what the octets come to is that of any bits and blocks that they have
notes-are : OneBits → OneBlocks → (status : ℕ) (c : Configuration) (octets : List ℕ) (chosen : Option Chosen)
    (taken : Taken) → (r : Came status c octets chosen taken) → (bits : List Bool)
    (inner : Inner c (skip_of chosen) octets bits)
    → Wrote taken.notes taken.notes_now (report_text (with_phase chosen r.items) (totals_of c bits inner.blocks))
notes-are one_bits one_blocks status c octets chosen taken r bits inner =
    let same : r.bits ≡ bits = one_bits c (skip_of chosen) octets r.bits bits r.inner inner in
    let all : r.inner.blocks ≡ inner.blocks =
    one_blocks c (skip_of chosen) octets r.inner.blocks inner.blocks r.inner.left inner.left r.inner.are_blocks
    inner.are_blocks in
    subst (λ (t : Totals). Wrote taken.notes taken.notes_now (report_text (with_phase chosen r.items) t))
    (r.counted ∙ (λ i. totals_of c (same i) (all i))) r.notes

-- where `decode` read all
module _ (one_phase : OnePhase) (one : OneHanded) (e : Ending) (status : ℕ) (c : Configuration) (octets : List ℕ)
    (taken : Taken) (ok : IsAccepted c) (stated : status ≡ status_of e)
    (ends : Ends e (decode_meaning c) c.limit octets taken) (read : (status ≡ 0) ⊎ (status ≡ 1)) where
  came : (chosen : Option Chosen) → IsChosen c octets chosen → Came status c octets chosen taken
  came chosen choice =
      let wrote = whole-output e status c octets taken stated ends read in
      let d = wrote.0.1 in
      let r = d.are_received in
      let all = r.are_items in
      let same : r.chosen ≡ chosen = one-choice one_phase c octets r.chosen chosen r.choice choice in
      let handed : d.handed ≡ with_phase chosen r.items =
      r.are ∙ ap (λ (o : Option Chosen). with_phase o r.items) same in
      let items : items_of d.handed ≡ r.items = ap (items_of {I = ItemValue}) handed
      ∙ items_of-with_phase chosen r.items in
      let was = all.1 in
      let inner : Inner c (skip_of chosen) octets all.0 = record {
        blocks = was.blocks;
        left = was.left;
        are_blocks =
            subst (λ (o : Option Chosen). AreInnerBlocks c (skip_of o) octets was.blocks was.left) same was.are_blocks;
        are_bits = was.are_bits;
      } in
      record {
        bits = all.0;
        items = r.items;
        inner = inner;
        receive = record {
          bits = all.0;
          inner = inner;
          are_items = all.3;
          symbols =
              subst (λ (o : Option Chosen). HaveSymbols (symbol_at c (skip_of o) was.blocks) r.items) same
              all.4;
        };
        out = subst (Wrote taken.out taken.out_now) (d.are_frames ∙ ap frames_of items) wrote.0.2.out;
        handed = d.handed;
        totals = d.totals;
        received = r;
        counted = all.2;
        notes =
            subst (Wrote taken.notes taken.notes_now)
            (d.is_report ∙ ap (λ (l : List (Handed ItemValue)). report_text l d.totals) handed) wrote.0.2.notes;
        good = λ none. wrote.1
            (λ h. h.2 (ap (λ (l : List (Handed ItemValue)). bad (items_of l))
            (one c octets h.0 d.handed h.1.0 d.totals ok h.1.1 r) ∙ ap bad items ∙ none));
      }

  -- what came of octets of which the phase is known
  came-free : ((chosen : Option Chosen) → IsChosen c octets chosen → chosen ≡ sent_phase c)
      → Came status c octets (sent_phase c) taken
  came-free known =
      let r = (whole-output e status c octets taken stated ends read).0.1.are_received in
      came (sent_phase c) (subst (λ (o : Option Chosen). IsChosen c octets o) (known r.chosen r.choice) r.choice)

  -- ---- links

  pub keeps-clean : SentPhase → CleanTotals → CleanItems → CleanFrames → KeepsCleanLink status c octets taken
  keeps-clean sent_phases clean_totals_of clean frames = λ input skip start small is.
      let r = came-free
      (λ chosen choice. sent_phases c input chosen skip (subst (λ (l : List ℕ). IsChosen c l chosen) is choice)) in
      let sent_frames = found_frames c (whole_frames c.frame_length input) in
      let receive : Receive c 0 (sent c input) r.items =
      subst (λ (n : ℕ). Receive c n (sent c input) r.items) (sent-skip c)
      (subst (λ (l : List ℕ). Receive c (skip_of (sent_phase c)) l r.items) is r.receive) in
      let items : r.items ≡ clean_items c 0 sent_frames = clean c input r.items ok skip start small receive in
      let count : r.totals ≡ clean_totals c (8 * length (cadus c input)) =
      clean_totals_of c input r.handed r.totals ok skip start
      (subst (λ (l : List ℕ). AreReceived c l r.handed r.totals) is r.received) in (
        r.good (ap bad items ∙ clean-good c 0 sent_frames),
        subst (Wrote taken.out taken.out_now) (ap frames_of items ∙ frames c 0 sent_frames) r.out,
        subst (Wrote taken.notes taken.notes_now)
            (λ i. report_text (with_phase (sent_phase c) (items i)) (count i)) r.notes,
      )

  pub keeps-disturbed : OneBits → OneBlocks → SentItems → SentFrames → KeepsDisturbedLink status c octets taken
  keeps-disturbed one_bits one_blocks sent_items sent_frames = λ bits units last chosen choice inner is.
      let r = came chosen choice in
      let as_sent = sent_items c (skip_of chosen) octets bits units last r.items ok inner is r.receive in (
        r.items,
        as_sent,
        r.out,
        notes-are one_bits one_blocks status c octets chosen taken r bits inner,
        λ near. (
          r.good (near-good c (unit_places c units) units r.items as_sent near),
          subst (Wrote taken.out taken.out_now)
              (sent_frames c (skip_of chosen) octets bits units last r.items ok inner is r.receive near) r.out,
        ),
      )

  pub keeps-complemented_input : OneItems → ComplementedItems → KeepsComplementedInput c octets taken
  keeps-complemented_input one_items complemented = λ other bits items chosen plain find small is choice inner are.
      let r = came chosen (choice-plain c other octets chosen plain choice) in
      let at = symbol_at c (skip_of chosen) inner.blocks in
      let with_symbols = map (said at) items in
      let receive : Receive c (skip_of chosen) octets (map complemented_item with_symbols) =
      subst (λ (l : List ℕ). Receive c (skip_of chosen) l (map complemented_item with_symbols)) (sym is)
      (complemented c (skip_of chosen) other with_symbols ok plain find small
      (record {
        bits = bits;
        inner = inner;
        are_items = items-said c at bits (places_in c bits) items are;
        symbols = have-said at items;
      })) in
      let same : r.items ≡ map complemented_item with_symbols = one_items c (skip_of chosen) octets r.items
      (map complemented_item with_symbols) ok r.receive receive in
      let count : r.totals ≡ totals_of c bits inner.blocks =
      r.counted ∙ same-totals c (skip_of chosen) octets other r.bits bits plain
      (ap length is ∙ length-map other (λ octet. 255 - octet)) r.inner inner in (
        subst (Wrote taken.out taken.out_now)
            (ap frames_of same ∙ frames-complemented with_symbols ∙ frames-said at items) r.out,
        subst (Wrote taken.notes taken.notes_now)
            (ap (λ (l : List ItemValue). report_text (with_phase chosen l) r.totals) same
            ∙ report-said at chosen items r.totals
            ∙ ap (report_text (with_phase chosen (map complemented_item items))) count) r.notes,
      )

  pub keeps-complemented_symbols : ComplementedPhase → ComplementedTotals → CleanFrames → ComplementedSymbols
      → KeepsComplementedSymbols status c octets taken
  keeps-complemented_symbols complemented_phases totals_of_both frames complemented =
      λ input half find any skip small is.
      let r = came-free
      (λ chosen choice. complemented_phases c input chosen skip (subst (λ (l : List ℕ). IsChosen c l chosen) is choice))
      in
      let sent_frames = found_frames c (whole_frames c.frame_length input) in
      let clean = clean_items c 0 sent_frames in
      let receive : Receive c 0 (complemented_octets (sent c input)) r.items =
      subst (λ (n : ℕ). Receive c n (complemented_octets (sent c input)) r.items) (sent-skip c)
      (subst (λ (l : List ℕ). Receive c (skip_of (sent_phase c)) l r.items) is r.receive) in
      let items : r.items ≡ map complemented_item clean = complemented c input r.items ok half find any skip small
      receive in
      let count : r.totals ≡ clean_totals c (8 * length (cadus c input)) =
      totals_of_both c input r.handed r.totals ok half any skip
      (subst (λ (l : List ℕ). AreReceived c l r.handed r.totals) is r.received) in (
        r.good (ap bad items ∙ bad-complemented clean ∙ clean-good c 0 sent_frames),
        subst (Wrote taken.out taken.out_now)
            (ap frames_of items ∙ frames-complemented clean ∙ frames c 0 sent_frames) r.out,
        subst (Wrote taken.notes taken.notes_now)
            (λ i. report_text (with_phase (sent_phase c) (items i)) (count i)) r.notes,
      )

  pub keeps-found : OneBits → OneBlocks → FoundItems → KeepsFound c octets taken
  keeps-found one_bits one_blocks found = λ bits chosen on alone choice inner.
      let r = came chosen choice in (
        r.items,
        r.out,
        notes-are one_bits one_blocks status c octets chosen taken r bits inner,
        λ at inverted is. found c (skip_of chosen) octets bits r.items at inverted on alone inner r.receive is,
      )
