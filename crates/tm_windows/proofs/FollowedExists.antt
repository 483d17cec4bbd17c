-- Octets have blocks in windows before which octets may be dropped.
use Rattle.std.proofs.Common.{◌≡◌, inl, inr, ℕ, zero, suc, ◌+◌, ◌-◌, ◌<◌, ◌≤◌, ◌++◌, refl, sym, ap, subst, arith, List, [], ◌∷◌, Option, Some, None, length, length-drop}
use Rattle.std.specs.Option.{ForSome}
use Rattle.std.proofs.lemmas.Bool.{cases_lt}
use Rattle.tm_conv.specs.declared.rates.Rate.{Rate}
use Rattle.tm_conv.specs.Path.{steps_size}
use Rattle.tm_conv.proofs.Sizes.{steps_size-add, steps_size-least}
use Rattle.tm_viterbi.specs.declared.block.Start.{Start}
use Rattle.tm_viterbi.specs.declared.block.Start.TheVariants.{Zero, Any}
use Rattle.tm_viterbi.specs.declared.window_decoder.WindowShape.{WindowShape}
use Rattle.tm_viterbi.specs.Starts.{first_start}
use Rattle.tm_viterbi.specs.Settings.{Settings}
use Rattle.tm_viterbi.specs.WindowBlock.{WindowBlock}
use Rattle.tm_viterbi.specs.Blocks.{AreSteps, IsBlock}
use Rattle.tm_viterbi.specs.Due.{Place, Closes, after_block}
use Rattle.tm_viterbi.proofs.HasBlocks.{HasBest, HasStart, whole_steps, has_block as has_last_block}
use Rattle.tm_viterbi.proofs.OneList.{many}
use Rattle.tm_windows.specs.Slip.{octets_seen}
use Rattle.tm_windows.specs.Windows.{Windows, Beginning, Spot, first_spot, moved, DropsBy, Begins, IsUnseen, BeginsLast, undropped, ClosesAt, spot_after, Followed, closing_size, IsLast, AreBlocksIn, IsSeen}
use Rattle.tm_windows.proofs.Phases.{period_size_most}
use Rattle.tm_windows.proofs.Slips.{IsSlip-exists}
use Rattle.tm_windows.proofs.Beginnings.{begins-within}
use Rattle.tm_windows.proofs.Existing.{some_start, has_block}
use Rattle.tm_windows.proofs.Runs.{small_some}

-- a path may start there
abbrev pub MayStart : Place → Type 0
MayStart at = ForSome at.starts (λ register. register < 64)

moved-start : (k : ℕ) (at : Place) → MayStart at → MayStart (moved k at)
moved-start zero at may = may
moved-start (suc k) at may = λ register is. absurd (cc)

-- ---- where a window begins

record HasBeginning (w : Windows) (spot : Spot) : Type 0 where
  b : Beginning
  begins : BeginsLast w spot b
  start : MayStart b.place

drops-exists : HasBest → (w : Windows) (at : Place) (seen : Option ℕ) → w.seen ≡ seen → MayStart at
    → HasBeginning w (record { place = at; decided = None })
drops-exists best w at None is may = record {
  b = record { dropped = 0; place = at };
  begins = inl (subst (λ (o : Option ℕ). DropsBy w.settings o at (record { dropped = 0; place = at })) (sym is) refl);
  start = may;
}
drops-exists best w at (Some steps) is may =
    let s = w.settings in
    elim (cases_lt (length at.octets) (octets_seen s.rate at.t steps)) as
    (λ _. HasBeginning w (record { place = at; decided = None })) [
      | inl less ↦ record {
        b = record { dropped = 0; place = at };
        begins = inr ((refl, (steps, is, less)), refl);
        start = may;
      }
      | inr many ↦
          (let slip = IsSlip-exists best s.rate s.invert at.t steps at.octets many in
          let found : Beginning = record { dropped = slip.0; place = moved slip.0 at } in
          record {
            b = found;
            begins = inl (subst (λ (o : Option ℕ). DropsBy s o at found) (sym is) (many, slip.1, refl));
            start = moved-start slip.0 at may;
          })
    ]

beginning : HasBest → (w : Windows) (decided : Option ℕ) (at : Place) → MayStart at
    → HasBeginning w (record { place = at; decided = decided })
beginning best w (Some dropped) at may =
    record { b = record { dropped = dropped; place = at }; begins = inl refl; start = may }
beginning best w None at may = drops-exists best w at w.seen refl may

-- ---- the closed windows

abbrev shape_of : Settings → WindowShape
shape_of s = record { rate = s.rate; invert = s.invert; keep = s.keep; ahead = s.ahead }

-- the closed windows after a spot, and where the last one begins
pub record Ends (w : Windows) (from : Spot) : Type 0 where
  pub done : List WindowBlock
  pub to : Spot
  pub closed : Followed w from done to
  pub window : Beginning
  pub begins : BeginsLast w to window
  pub start : MayStart window.place
  pub few : length window.place.octets < closing_size w.settings window.place.t

pub undropped-same : (x : WindowBlock) → x.dropped ≡ 0 → undropped x ≡ x
undropped-same x is = λ i. record x { dropped = sym is i }

-- the block of a window that is closed
record HasClosed (s : Settings) (b : Beginning) : Type 0 where
  block : WindowBlock
  closes : ClosesAt s b block
  kept : block.kept ≡ s.keep
  small : block.end_state < 64

closed-exists : HasBest → (s : Settings) (b : Beginning) → MayStart b.place
    → closing_size s b.place.t ≤ length b.place.octets → HasClosed s b
closed-exists best s b may room =
    let found = has_block best (shape_of s) b.place may room in record {
      block = record (found.block) { dropped = b.dropped };
      closes = (
        subst (λ (v : WindowBlock). Closes s.rate s.invert s.keep s.ahead b.place v)
            (sym (undropped-same found.block found.closes.is_block.dropped)) found.closes,
        refl,
      );
      kept = found.kept;
      small = found.small;
    }

-- a window that is closed has been looked at
pub seen-before : (rate : Rate) (t steps wide : ℕ) → steps + 8 ≤ wide
    → octets_seen rate t steps ≤ steps_size rate t (wide + 1)
seen-before rate t steps wide few =
    let more : ℕ = wide + 1 - steps in
    let sum : steps + more ≡ wide + 1 = omega (arith, few) in
    let long : 9 ≤ more = omega (arith, few) in
    omega (
      arith,
      steps_size-add rate t steps more,
      ap (steps_size rate t) sum,
      steps_size-least rate (t + steps) more,
      long,
      period_size_most rate,
    )

pub seen-first : (s : Settings) (t steps : ℕ) → steps + 8 ≤ s.keep + s.ahead
    → octets_seen s.rate t steps ≤ closing_size s t
seen-first s t steps few = seen-before s.rate t steps (s.keep + s.ahead) few

pub unseen-open : (w : Windows) (spot : Spot) → IsSeen w → IsUnseen w spot
    → length spot.place.octets < closing_size w.settings spot.place.t
unseen-open w spot seen unseen =
    let found = unseen.1 in
    omega (arith, found.2, seen-first w.settings spot.place.t found.0 ((seen found.0 found.1).1))

-- where the windows after a spot with fewer octets have an end, those after this one have one
abbrev Further : Windows → Spot → Type 0
Further w from = (next : Spot) → MayStart next.place → length next.place.octets < length from.place.octets → Ends w next

ends_after : (w : Windows) (from : Spot) → Further w from → 0 < w.settings.keep → (b : Beginning) → Begins w from b
    → HasClosed w.settings b
    → closing_size w.settings b.place.t ≤ length b.place.octets → Ends w from
ends_after w from further wide b begins found room =
    let s = w.settings in
    let x = found.block in
    let less : length (after_block s.rate b.place x).octets < length from.place.octets = omega (
      arith,
      room,
      (begins-within w from b begins).1,
      length-drop (steps_size s.rate b.place.t x.kept) b.place.octets,
      steps_size-least s.rate b.place.t x.kept,
      steps_size-least s.rate b.place.t (s.keep + s.ahead + 1),
      found.kept,
      wide,
    ) in
    let rest = further (spot_after s b x) (small_some x.end_state found.small) less in
    record {
      done = x ∷ rest.done;
      to = rest.to;
      closed = (b, begins, found.closes, rest.closed);
      window = rest.window;
      begins = rest.begins;
      start = rest.start;
      few = rest.few;
    }

ends_by : HasBest → (w : Windows) → IsSeen w → 0 < w.settings.keep → (from : Spot) → MayStart from.place
    → Further w from → Ends w from
ends_by best w seen wide from may further =
    let s = w.settings in
    let h = beginning best w from.decided from.place may in
    elim (cases_lt (length h.b.place.octets) (closing_size s h.b.place.t)) as (λ _. Ends w from) [
      | inl few ↦ record {
        done = [];
        to = from;
        closed = refl;
        window = h.b;
        begins = h.begins;
        start = h.start;
        few = few;
      }
      | inr room ↦ elim (h.begins) as (λ _. Ends w from) [
        | inl begins ↦ ends_after w from further wide h.b begins (closed-exists best s h.b h.start room) room
        | inr unseen ↦ absurd
            (let few = subst (λ (v : Beginning). length v.place.octets < closing_size s v.place.t) (sym unseen.1)
            (unseen-open w from seen unseen.0) in
            omega (arith, room, few))
      ]
    ]

-- by no more octets than `bound`
pub ends : HasBest → (w : Windows) → IsSeen w → 0 < w.settings.keep → (bound : ℕ) (from : Spot) → MayStart from.place
    → length from.place.octets ≤ bound → Ends w from
ends best w seen wide zero from may within =
    ends_by best w seen wide from may (λ next start less. absurd (omega (arith, less, within)))
ends best w seen wide (suc bound) from may within =
    ends_by best w seen wide from may (λ next start less. ends best w seen wide bound next start
    (omega (arith, less, within)))

-- the same after a spot at which a window begins
pub ends_from : HasBest → (w : Windows) → IsSeen w → 0 < w.settings.keep → (spot : Spot) (b : Beginning)
    → Begins w spot b → MayStart b.place → Ends w spot
ends_from best w seen wide spot b begins may =
    let s = w.settings in
    elim (cases_lt (length b.place.octets) (closing_size s b.place.t)) as (λ _. Ends w spot) [
      | inl few ↦ record {
        done = [];
        to = spot;
        closed = refl;
        window = b;
        begins = inl begins;
        start = may;
        few = few;
      }
      | inr room ↦ ends_after w spot
          (λ next start less. ends best w seen wide (length spot.place.octets) next start (omega (arith, less))) wide
          b begins
          (closed-exists best s b may room) room
    ]

-- ---- the last window

last-exists : HasBest → (s : Settings) (b : Beginning) (n : ℕ) → MayStart b.place
    → AreSteps s.rate b.place.t b.place.octets n
    → (last : List WindowBlock) × IsLast s b n last
last-exists best s b zero may are = ([], refl)
last-exists best s b (suc n) may are =
    let start = some_start b.place.starts may in
    let from : HasStart b.place.starts = record { register = start.0; is = start.2; small = start.1 } in
    let found = has_last_block best s.rate s.invert s.keep s.ahead b.place.starts b.place.t
    (suc n) b.place.octets from are in
    let last : WindowBlock = record (found.block) { dropped = b.dropped } in (
      last ∷ [],
      (
        last,
        refl,
        refl,
        subst (λ (v : WindowBlock). IsBlock s.rate s.invert s.keep s.ahead b.place.starts b.place.t
            (suc n) b.place.octets v)
            (sym (undropped-same found.block found.is.dropped)) found.is,
      ),
    )

start-small : (start : Start) → ForSome (first_start start) (λ register. register < 64)
start-small Zero = λ register is. (let e : 0 ≡ register = cc in omega (arith, e))
start-small Any = λ register is. absurd (cc)

pub followed-exists : HasBest → (w : Windows) (octets : List ℕ) → 0 < w.settings.keep → IsSeen w
    → (blocks : List WindowBlock) × (left : ℕ) × AreBlocksIn w octets blocks left
followed-exists best w octets wide seen =
    let s = w.settings in
    let e = ends best w seen wide (length octets) (first_spot w octets) (start-small s.start) (omega arith) in
    let at = e.window.place in
    let n = whole_steps s.rate at.t at.octets in
    let last = last-exists best s e.window n.0 e.start n.1 in (
      e.done ++ last.0,
      length at.octets - steps_size s.rate at.t n.0,
      record {
        done = e.done;
        to = e.to;
        closed = e.closed;
        window = e.window;
        begins = e.begins;
        count = n.0;
        steps = n.1;
        few = many s.rate at.t (s.keep + s.ahead) n.0 (length at.octets) e.few n.1.whole;
        last = last.0;
        is_last = last.1;
        are = refl;
        rest = omega (arith, n.1.whole);
      },
    )
