-- Items that were written to arrays, one after another.
use Rattle.std.proofs.Common.{◌≡◌, ◌⊎◌, inl, inr, ◌≤◌, ◌<◌, ◌+◌, ◌-◌, ◌*◌, ◌/◌, ◌^◌, ◌==◌, nat_le, ℕ, suc, Bool, true, false, List, [], ◌∷◌, ◌++◌, length, take, drop, slice_set, refl, sym, ap, ◌∙◌, subst, arith, length-append, mul-le-mul_right, min, if◌then◌else◌, Option, Some, None}
use Rattle.std.proofs.Math.Nat.{div-mul-le_self}
use Rattle.std.proofs.lemmas.Nat.{le-div}
use Rattle.std.proofs.lemmas.Bool.Decides.{nat_tests}
use Rattle.std.proofs.lemmas.Grind.{common_steps}
use Rattle.std.proofs.lemmas.Fn.{chained_keeps}
use Rattle.tm_base.specs.Handed.{Handed, items_of, on_handed}
use Rattle.tm_base.specs.Takers.{HandedOver}
use Rattle.tm_config.specs.Configuration.{Configuration}
use Rattle.tm_conv.specs.declared.rates.Rate.{Rate}
use Rattle.tm_sync.specs.declared.found.Columns.{Columns}
use Rattle.tm_sync.specs.Rescan.{reach}
use Rattle.tm_codeblock.specs.ReceivedCodeblock.{columns_of, rules_of}
use Rattle.tm_channel.specs.Items.{ItemValue, frames_of}
use Rattle.tm_channel.specs.Most.{AreFew, most_bits, most_bits_at, most_found_at, most_items}
use Rattle.tm_buffers.specs.Buffer.{over}
use Rattle.tm_buffers.specs.Reports.{AreReports, IsReport}
use Rattle.tm_buffers.specs.Items.{HasCollected, HasWritten}
use Rattle.tm_buffers.specs.Receiving.{HasRoom, IsEnough}
use Rattle.tm_buffers.specs.declared.items.BufferItems.{BufferItems}
use Rattle.tm_buffers.specs.declared.items.Report.{Report}
use Rattle.tm_buffers.specs.declared.items.Written.{Written}
use Rattle.tm_buffers.proofs.Over.{answered, handed-items, over-set}

-- ---- one item more

frames-append : (xs ys : List ItemValue) → frames_of (xs ++ ys) ≡ frames_of xs ++ frames_of ys
frames-append [] ys = refl
frames-append (x ∷ xs) ys = grind (arith, common_steps, frames-append xs ys)

pub frames-more : (items : List ItemValue) (item : ItemValue)
    → frames_of (items ++ item ∷ []) ≡ frames_of items ++ item.frame
frames-more items item = grind (arith, common_steps, frames-append items (item ∷ []))

reports-more : (frame at : ℕ) (items : List ItemValue) (item : ItemValue) (reports : List Report) (report : Report)
    → AreReports frame items reports → at ≡ frame + length (frames_of items) → IsReport at item report
    → AreReports frame (items ++ item ∷ []) (reports ++ report ∷ []) × (length reports ≡ length items)
reports-more frame at [] item [] report are there is =
    ((subst (λ (n : ℕ). IsReport n item report) (let here : at ≡ frame = omega (arith, there) in here) is, tt), refl)
reports-more frame at [] item (r ∷ reports) report are there is = absurd are
reports-more frame at (x ∷ items) item [] report are there is = absurd are
reports-more frame at (x ∷ items) item (r ∷ reports) report are there is =
    let rest = reports-more (frame + length x.frame) at items item reports report are.1
    (omega (arith, there, length-append x.frame (frames_of items))) is in
    ((are.0, rest.0), ap suc rest.1)

abbrev pub written_of : (reports octets : ℕ) → Written
written_of reports octets = record { reports = reports; octets = octets; windows = 0 }

module _ (count octets : ℕ) (items : List ItemValue) (item : ItemValue) (frames frames_now : List ℕ)
    (reports reports_now : List Report)
    (h : HasWritten (if count == length items then Some count else None) items frames frames_now reports reports_now
    (written_of count octets)) where
  abbrev More : List ItemValue
  More = items ++ item ∷ []

  -- it was dropped
  pub item-dropped : (is_short : Bool) → (is_short ≡ true → count < length items)
      → (is_short ≡ true) ⊎ ((length reports ≤ count) ⊎ (length frames < octets + length item.frame))
      → HasWritten (if count == length More then Some count else None) More frames frames_now reports reports_now
      (written_of count octets)
  item-dropped is_short cut why = record {
    within = omega (arith, h.within, length-append {A = ItemValue});
    answer = refl;
    said = h.said;
    are_reports = grind (arith, common_steps, h);
    reports_hold = h.reports_hold;
    frames_hold = grind (arith, common_steps, h);
    octets = grind (arith, common_steps, h);
    windows = refl;
    full = λ less. grind (arith, common_steps, h.full, cut, why, frames-more, h.octets);
  }

  -- it was written
  pub item-written : (report : Report) (frames_then : List ℕ) (end : ℕ) → count ≡ length items → count < length reports
      → IsReport octets item report → frames_then ≡ over (frames_of More) frames → end ≡ octets + length item.frame
      → HasWritten (if count + 1 == length More then Some (count + 1) else None) More frames frames_then reports
      (slice_set reports_now count report) (written_of (count + 1) end)
  item-written report frames_then end all some is frames_hold end_is =
      let were : AreReports 0 items h.said = grind (arith, common_steps, h) in
      let at : octets ≡ 0 + length (frames_of items) = grind (arith, common_steps, h) in
      let are = reports-more 0 octets items item h.said report were at is in
      record {
        within = omega (arith, all, length-append {A = ItemValue});
        answer = refl;
        said = h.said ++ report ∷ [];
        are_reports = grind (arith, common_steps, are);
        reports_hold = over-set h.said reports reports_now report count h.reports_hold (all ∙ sym are.1) some;
        frames_hold = grind (arith, common_steps, frames_hold);
        octets = grind (arith, common_steps, h, frames-more);
        windows = refl;
        full = λ less. absurd (omega (arith, less, all, length-append {A = ItemValue}));
      }

-- ---- all of them

abbrev Took : BufferItems → ItemValue → BufferItems → Type 0
Took a item b = (lent lent_reports : ℕ) (frames : List ℕ) (reports : List Report) (items : List ItemValue)
    → HasCollected lent lent_reports frames reports items a
    → HasCollected lent lent_reports frames reports (items ++ item ∷ []) b

pub collected : (lent lent_reports : ℕ) (frames : List ℕ) (reports : List Report) (a b : BufferItems)
    (more : List (Handed ItemValue)) → HasCollected lent lent_reports frames reports [] a
    → HandedOver (on_handed (λ (a : BufferItems) skip cost b. b ≡ a) Took) a more b
    → HasCollected lent lent_reports frames reports (items_of more) b
collected lent lent_reports frames reports a b more none handed =
    chained_keeps Took (HasCollected lent lent_reports frames reports)
    (λ before q item v h took. took lent lent_reports frames reports before h) (items_of more) a b none
    (handed-items Took a b more handed)

-- what a taker over whole arrays has written
pub has-written : (lent lent_reports : ℕ) (frames : List ℕ) (reports : List Report) (b : BufferItems)
    (items : List ItemValue) → HasCollected lent lent_reports frames reports items b
    → HasWritten (if b.is_short then None else Some (min b.count (length reports))) items frames b.frames.now reports
    b.reports.now (written_of b.count b.octets)
has-written lent lent_reports frames reports b items h =
    let same : min b.count (length reports) ≡ b.count = omega (arith, b.within, h.reports_long) in
    subst (λ (n : Option ℕ). HasWritten n items frames b.frames.now reports b.reports.now
    (written_of b.count b.octets))
    (sym (answered b.is_short b.count (length items) (Some (min b.count (length reports))) h.is_all
    ∙ ap (λ n. if b.count == length items then Some n else None) same)) h.written

-- ---- room that is enough

-- more octets come to no fewer items
div-more : (m n unit : ℕ) → 0 < unit → m ≤ n → m / unit ≤ n / unit
div-more m n unit some more = le-div (m / unit) n unit some (omega (arith, div-mul-le_self m unit, more))

found-more : (columns : Option Columns) (unit verify m n : ℕ) → 0 < unit → m ≤ n
    → most_found_at columns unit verify m ≤ most_found_at columns unit verify n
found-more None unit verify m n some more = omega (arith, div-more m n unit some more)
found-more (Some columns) unit verify m n some more =
    omega (
      arith,
      div-more (m + verify * unit) (n + verify * unit) (unit - reach columns + 1) (omega arith) (omega (arith, more)),
    )

bits-more : (rate : Option Rate) (pack : Bool) (c : Configuration) (m n : ℕ) → c.pack ≡ pack → m ≤ n
    → most_bits_at rate c m ≤ most_bits_at rate c n
bits-more None true c m n is more = rw is (omega (arith, more))
bits-more None false c m n is more = rw is more
bits-more (Some rate) pack c m n is more = omega (arith, more)

items-more : (c : Configuration) (m n : ℕ) → m ≤ n → most_items c m ≤ most_items c n
items-more c m n more =
    omega (
      arith,
      found-more (columns_of c) (32 + (rules_of c).block_bits) c.verify (most_bits c m) (most_bits c n)
          (omega arith) (bits-more c.inner c.pack c m n refl more),
    )

has-room : (c : Configuration) (said : Bool) (most : ℕ) (frames : List ℕ) (reports : List Report)
    → HasRoom c (if said then Some most else None) frames reports
    → (most ≤ length reports) × (most * c.frame_length ≤ length frames)
has-room c true most frames reports room = room
has-room c false most frames reports room = absurd room

frames-first : (count : ℕ) (items : List ItemValue) → length (frames_of (take count items)) ≤ length (frames_of items)
frames-first count items =
    let all = frames-append (take count items) (drop count items) in grind (arith, common_steps, all)

-- with the room that `items_room` gives all items were written
pub enough : (c : Configuration) (octets : ℕ) (count : Option ℕ) (items : List ItemValue) (frames frames_now : List ℕ)
    (reports reports_now : List Report) (said : Written) → AreFew c octets items
    → HasWritten count items frames frames_now reports reports_now said
    → IsEnough c octets count frames reports
enough c octets (Some count) items frames frames_now reports reports_now said few h most more room = refl
enough c octets None items frames frames_now reports reports_now said few h most more room =
    let is = has-room c (nat_le most (2 ^ 40)) (most_items c most) frames reports room in
    let items_few = items-more c octets most more in
    let frames_few = mul-le-mul_right c.frame_length items_few in
    let less : said.reports < length items = grind (arith, nat_tests, h.answer, h.within) in
    absurd (elim (h.full less) as (λ _. ⊥) [
      | inl many ↦ omega (arith, many, less, few.0, items_few, is.0)
      | inr many ↦ omega (arith, many, frames-first (suc said.reports) items, few.1, frames_few, is.1)
    ])
