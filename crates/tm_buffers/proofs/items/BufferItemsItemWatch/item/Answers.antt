use Rattle.std.proofs.Common.{rules, arith, ◌≡◌, ◌⊎◌, ◌∙◌, ◌+◌, ◌-◌, ◌<◌, ◌≤◌, inl, inr, true, ℕ, List, sym, length, ap, length-append, length-set}
use Rattle.std.proofs.lemmas.Grind.{common_steps}
use Rattle.tm_channel.specs.Items.{ItemValue, frames_of}
use Rattle.tm_buffers.specs.Buffer.{over}
use Rattle.tm_buffers.proofs.Over.{over-put}
use Rattle.tm_buffers.proofs.WrittenItems.{frames-more, item-dropped, item-written}
use Rattle.tm_buffers.proofs.items.BufferItemsItemWatch.item.Goals as goal
use Rattle.tm_buffers.proofs.items.BufferItemsItemWatch.item.Goals.{then-self-via-then-self, then-self-via-else-self+then-self-2, then-self-via-else-self+else-self-2+then-size-self}

pub returns-then-self : goal.returns-then-self
returns-then-self c = λ lent lent_reports frames reports items h.
    let b = c.args.self.now in
    let item = c.args.item.now in
    let same = ap (λ (i : ItemValue). length i.frame) c.item.view_is in
    let why : (b.is_short ≡ true) ⊎ ((length reports ≤ b.count) ⊎ (length frames < b.octets + length item.frame)) =
    elim c.then-self.branch as (λ _. (b.is_short ≡ true) ⊎ ((length reports ≤ b.count)
    ⊎ (length frames < b.octets + length item.frame))) [
      | then-self-via-then-self w ↦ inl w.if-self.true
      | then-self-via-else-self+then-self-2 w ↦ inr (inl (omega (arith, w.if-self-2.true, h.reports_long)))
      | then-self-via-else-self+else-self-2+then-size-self w ↦
          inr (inr (omega (arith, w.if-size-self.true, same, h.long, b.octets_within)))
    ] in
    record {
      loan = h.loan;
      reports_loan = h.reports_loan;
      long = h.long;
      reports_long = h.reports_long;
      written = item-dropped b.count b.octets items item frames b.frames.now reports b.reports.now h.written b.is_short
          h.is_all.cut why;
      is_all = record {
        cut = λ _. omega (arith, h.written.within, length-append {A = ItemValue});
        whole = λ short. absurd cc;
      };
    }

pub returns : goal.returns
returns c = λ lent lent_reports frames reports items h.
    let b = c.args.self.now in
    let item = c.args.item.now in
    let new = c.copy_from_slice.new.self in
    let same = ap (λ (i : ItemValue). i.frame) c.item.view_is in
    let is : new ≡ item.frame = c.copy_from_slice.ensures.after ∙ same in
    let all : b.count ≡ length items = h.is_all.whole (search rules) in
    let some : b.count < length reports = omega (arith, b.within, h.reports_long) in
    let size : ℕ = length c.item.inside.frame.now in
    let at : b.octets ≡ length (frames_of items) = grind (arith, common_steps, h.written.octets) in
    let now : b.frames.now ≡ over (frames_of items) frames = grind (arith, common_steps, h.written.frames_hold) in
    let frames_hold = over-put (frames_of items) frames b.frames.now item.frame new b.octets
    (b.octets + size - b.octets) now at is (omega (arith, ap length same))
    ∙ ap (λ l. over l frames) (sym (frames-more items item)) in
    record {
      loan = h.loan;
      reports_loan = h.reports_loan;
      long = grind (arith, common_steps, h.long, c.copy_from_slice.ensures);
      reports_long = length-set b.reports.now b.count c.report_of.result ∙ h.reports_long;
      written = item-written b.count b.octets items item frames b.frames.now reports b.reports.now h.written
          c.report_of.result _ _ all some c.report_of.ensures frames_hold
          (ap (λ (l : List ℕ). b.octets + length l) same);
      is_all = record {
        cut = λ short. absurd (omega (arith, h.is_all.cut short, all));
        whole = λ _. omega (arith, all, length-append {A = ItemValue});
      };
    }
