-- What `soak` counts of the items that it receives.
use Rattle.std.proofs.Common.{◌≡◌, ℕ, ◌+◌, ◌*◌, ◌≤◌, List, [], ◌++◌, length, sym, ap, ◌∙◌, subst, arith, length-append}
use Rattle.rand_pcg.specs.Lcg.{Lcg}
use Rattle.tm_base.specs.Limits.{most_limit}
use Rattle.tm_base.specs.Handed.{Handed, items_of}
use Rattle.tm_config.specs.Accepted.{IsAccepted}
use Rattle.tm_config.specs.Configuration.{Configuration, word_length, codeblock_length}
use Rattle.tm_config.proofs.Lengths.{codeblock_length-le}
use Rattle.tm_inner.specs.Sending.{InnerMakes, InnerSending, InnerSenderStandsFor}
use Rattle.tm_inner.specs.Symbols.{symbols_of_octets}
use Rattle.tm_inner.proofs.Symbols.{symbols-go_on, symbols-none}
use Rattle.tm_channel.specs.Items.{ItemValue}
use Rattle.tm_channel.specs.declared.totals.Totals.{Totals}
use Rattle.tm_channel.specs.Handing.{AreReceived}
use Rattle.tm_channel.specs.OctetReceiving.{FeedHands, FinishHands, OctetReceiving, ReceiverStandsFor}
use Rattle.tm_cli.specs.Generated.{drawn, draw_count, generated_unit, generated_units, generated}
use Rattle.tm_cli.specs.Lines.{report_end_text}
use Rattle.tm_cli.specs.Receiving.{HandedDue}
use Rattle.tm_cli.specs.Soak.{IsSoakLine}
use Rattle.tm_cli.specs.Taken.{AreCounted, CountedHanded, no_counts}
use Rattle.tm_cli.specs.declared.counts.Counts.{Counts}
use Rattle.tm_cli.proofs.Generating.{units-none, units-more}
use Rattle.tm_cli.proofs.Received.{all-handed, due-more, due-none}

-- ---- one unit

-- its symbols come after those of the octets before it
unit-symbols : (sender sender_now : InnerSending) (given unit symbols : List ℕ)
    → InnerMakes sender sender_now unit symbols → InnerSenderStandsFor sender given
    → symbols_of_octets sender.config given ++ symbols ≡ symbols_of_octets sender.config (given ++ unit)
unit-symbols sender sender_now given unit symbols made stands =
    ap (λ l. symbols_of_octets sender.config given ++ l) (sym (made.due given stands))
    ∙ sym (symbols-go_on sender.config given unit)

pub unit-few : (sender sender_now : InnerSending) (given unit symbols : List ℕ)
    → InnerMakes sender sender_now unit symbols → InnerSenderStandsFor sender given → length symbols ≤ 32704
    → length (symbols_of_octets sender.config (given ++ unit))
    ≤ length (symbols_of_octets sender.config given) + 32704
unit-few sender sender_now given unit symbols made stands few = omega (
  arith,
  few,
  ap length (unit-symbols sender sender_now given unit symbols made stands),
  length-append (symbols_of_octets sender.config given) symbols,
)

-- what is due for them is received
pub unit-received : (c : Configuration) (sender sender_now : InnerSending) (receiver receiver_now : OctetReceiving)
    (counts counts_now : Counts) (given unit symbols : List ℕ)
    → InnerMakes sender sender_now unit symbols → InnerSenderStandsFor sender given
    → receiver_now.config ≡ receiver.config
    → FeedHands CountedHanded receiver receiver_now counts counts_now symbols
    → HandedDue c receiver counts (symbols_of_octets sender.config given)
    → HandedDue c receiver_now counts_now (symbols_of_octets sender.config (given ++ unit))
unit-received c sender sender_now receiver receiver_now counts counts_now given unit symbols made stands same handed
    was =
    subst (HandedDue c receiver_now counts_now) (unit-symbols sender sender_now given unit symbols made stands)
    (due-more c receiver receiver_now counts counts_now (symbols_of_octets sender.config given) symbols handed.0 same
    handed.2 handed.1 was)

-- ---- all units

pub handed-none : (c : Configuration) (hits : ℕ) (receiver : OctetReceiving) → IsAccepted c → receiver.config ≡ c
    → ReceiverStandsFor receiver [] []
    → (g : _) → HandedDue c receiver no_counts (symbols_of_octets c (generated_units c 0 hits g))
handed-none c hits receiver accepted same stands g =
    let none : [] ≡ symbols_of_octets c (generated_units c 0 hits g) =
    sym (ap (symbols_of_octets c) (units-none c hits g) ∙ symbols-none c) in
    subst (HandedDue c receiver no_counts) none (due-none c receiver accepted same stands)

-- the symbols of one more, for a sender of the same configuration
units-symbols : (c : Configuration) (hits frame : ℕ) (g at : Lcg) (sender : InnerSending) (unit : List ℕ)
    → sender.config ≡ c → at ≡ drawn (frame * draw_count c hits) g → unit ≡ generated_unit c hits at
    → symbols_of_octets sender.config (generated_units c frame hits g ++ unit)
    ≡ symbols_of_octets c (generated_units c (frame + 1) hits g)
units-symbols c hits frame g at sender unit same stand is =
    (λ i. symbols_of_octets (same i) (generated_units c frame hits g ++ is i))
    ∙ ap (symbols_of_octets c) (units-more c frame hits g at stand)

pub handed-more : (c : Configuration) (hits frame : ℕ) (g at : Lcg) (sender : InnerSending)
    (receiver receiver_now : OctetReceiving) (counts counts_now : Counts) (unit : List ℕ)
    → sender.config ≡ c → at ≡ drawn (frame * draw_count c hits) g → unit ≡ generated_unit c hits at
    → HandedDue c receiver counts (symbols_of_octets c (generated_units c frame hits g))
    → (HandedDue c receiver counts (symbols_of_octets sender.config (generated_units c frame hits g))
    → HandedDue c receiver_now counts_now (symbols_of_octets sender.config (generated_units c frame hits g ++ unit)))
    → HandedDue c receiver_now counts_now (symbols_of_octets c (generated_units c (frame + 1) hits g))
handed-more c hits frame g at sender receiver receiver_now counts counts_now unit same stand is was goes_on =
    subst (HandedDue c receiver_now counts_now) (units-symbols c hits frame g at sender unit same stand is)
    (goes_on (subst (λ (k : Configuration). HandedDue c receiver counts
    (symbols_of_octets k (generated_units c frame hits g))) (sym same) was))

-- these are few
pub few-more : (c : Configuration) (hits frame : ℕ) (g at : Lcg) (sender : InnerSending) (unit : List ℕ)
    → sender.config ≡ c → at ≡ drawn (frame * draw_count c hits) g → unit ≡ generated_unit c hits at
    → length (symbols_of_octets c (generated_units c frame hits g)) ≤ 32704 * frame
    → length (symbols_of_octets sender.config (generated_units c frame hits g ++ unit))
    ≤ length (symbols_of_octets sender.config (generated_units c frame hits g)) + 32704
    → length (symbols_of_octets c (generated_units c (frame + 1) hits g)) ≤ 32704 * (frame + 1)
few-more c hits frame g at sender unit same stand is was goes_on = omega (
  arith,
  was,
  goes_on,
  ap length (units-symbols c hits frame g at sender unit same stand is),
  ap (λ (k : Configuration). length (symbols_of_octets k (generated_units c frame hits g))) same,
)

-- a unit is so long
pub unit_few : (c : Configuration) (depth word : ℕ) → IsAccepted c → depth ≡ c.depth → word ≡ word_length c
    → depth * word ≤ 2040
unit_few c depth word accepted is_depth is_word =
    let size : depth * word ≡ codeblock_length c = ap (λ n. n * word) is_depth ∙ ap (λ n. c.depth * n) is_word in
    omega (arith, size, codeblock_length-le c accepted)

-- ---- the end

-- all items of the octets are counted
pub all-counted : (c : Configuration) (receiver : OctetReceiving) (counts now : Counts) (octets : List ℕ)
    (totals : Totals) → length octets ≤ most_limit → HandedDue c receiver counts octets
    → FinishHands CountedHanded receiver counts now totals
    → (handed : List (Handed ItemValue)) × AreReceived c octets handed totals × AreCounted (items_of handed) now
all-counted c receiver counts now octets totals few was more =
    let all = all-handed c receiver counts now octets more.0 totals few more.2
    more.1 was in
    (was.handed ++ more.0, all.0, all.2)

-- ---- the line

pub counted-line : (c : Configuration) (seed frames hits : ℕ) (totals : Totals) (counts : Counts)
    → ((handed : List (Handed ItemValue)) × AreReceived c (generated c seed frames hits) handed totals
    × AreCounted (items_of handed) counts)
    → IsSoakLine c seed frames hits (report_end_text counts.good counts.bad counts.fixed totals.bits)
counted-line c seed frames hits totals counts counted =
    record {
      handed = counted.0;
      totals = totals;
      are_received = counted.1;
      is_line =
          (λ i. report_end_text (counted.2.good i) (counted.2.bad i) (counted.2.fixed i) totals.bits);
    }
