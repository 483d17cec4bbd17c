-- Octets that are held, and windows that they close.
use Rattle.std.proofs.Common.{◌≡◌, ℕ, zero, suc, ◌+◌, ◌-◌, ◌*◌, ◌/◌, ◌%◌, ◌<◌, ◌≤◌, ◌∙◌, ◌++◌, ◌∷◌, [], sym, ap, subst, arith, List, Option, Some, None, drop, length, add-mul, mul-le-mul_right, inl, inr, refl, unwrap_or}
use Rattle.std.specs.Option.{ForSome}
use Rattle.std.proofs.lemmas.Bool.{cases_lt}
use Rattle.std.proofs.lemmas.Nat.{div-add-mod', mod_below}
use Rattle.tm_conv.specs.Path.{steps_size}
use Rattle.tm_conv.proofs.Paths.{steps_size-more}
use Rattle.tm_conv.proofs.Sizes.{step_size_pos, steps_size-le, steps_size-add, steps_size-least}
use Rattle.tm_viterbi.specs.WindowBlock.{WindowBlock}
use Rattle.tm_viterbi.specs.Settings.{Settings}
use Rattle.tm_viterbi.specs.Due.{Place, first_place, AreDue}
use Rattle.tm_viterbi.specs.declared.window_decoder.WindowShape.{WindowShape}
use Rattle.tm_viterbi.proofs.HasBlocks.{HasBest}
use Rattle.tm_windows.specs.Slip.{octets_seen}
use Rattle.tm_windows.specs.Queue.{Queueing, AfterPhase, AwaitsPhase, HoldsRun, IsAt, IsOpen, QueueStandsFor, room_of, skip_of}
use Rattle.tm_windows.specs.Windows.{Windows, Beginning, Spot, first_spot, BeginsLast, Followed, closing_size, IsOpenAt, AreDueIn, IsLast, AreBlocksIn, kept_of, IsSeen}
use Rattle.tm_windows.proofs.Existing.{has_windows}
use Rattle.tm_windows.proofs.FollowedExists.{MayStart, Ends, ends, ends_from, unseen-open}
use Rattle.tm_windows.proofs.FollowedRuns.{place_of, followed-both, unfollowed-all, runs-to, at-within, at-few, last-begins, followed-long, followed-steps, followed-taken, closed-kept, closed-steps, closed-octets}
use Rattle.tm_windows.proofs.Runs.{more_times}

-- ---- how many windows are closed

-- `count` windows are all that `steps` steps close
pub record AreClosed (keep ahead steps count : ℕ) : Type 0 where
  pub room : 0 < count → count * keep + ahead + 1 ≤ steps
  pub most : steps < (count + 1) * keep + ahead + 1

pub are_closed : (keep ahead steps n : ℕ) → 0 < keep → n ≡ steps - (ahead + 1) → AreClosed keep ahead steps (n / keep)
are_closed keep ahead steps n some is =
    let count : ℕ = n / keep in
    let whole : count * keep + n % keep ≡ n = div-add-mod' n keep in
    let one : 0 < count → 1 * keep ≤ count * keep = λ lt. mul-le-mul_right keep
    (let le : 1 ≤ count = omega (arith, lt) in le) in
    record {
      room = λ lt. omega (arith, is, whole, one lt, some);
      most = omega (arith, is, whole, mod_below n keep some, more_times count keep);
    }

-- fewer windows than were asked for are all that the octets close
pub no_more : (s : WindowShape) (t len most steps count : ℕ) → AreClosed s.keep s.ahead steps count
    → (steps < most * s.keep + s.ahead + 1 → len < steps_size s.rate t (steps + 1)) → count < most
    → len < steps_size s.rate t ((count + 1) * s.keep + s.ahead + 1)
no_more s t len most steps count are less few =
    let next = (count + 1) * s.keep + s.ahead + 1 in
    let wide : (count + 1) * s.keep ≤ most * s.keep = mul-le-mul_right s.keep
    (let le : count + 1 ≤ most = omega (arith, few) in le) in
    omega (
      arith,
      less (omega (arith, are.most, wide)),
      steps_size-le s.rate t (steps + 1) next (omega (arith, are.most)),
    )

-- octets that close a window close one at least
pub some_closed : (s : WindowShape) (t len most steps count : ℕ) → AreClosed s.keep s.ahead steps count
    → (steps < most * s.keep + s.ahead + 1 → len < steps_size s.rate t (steps + 1)) → 0 < most
    → steps_size s.rate t (s.keep + s.ahead + 1) ≤ len → 0 < count
some_closed s t len most steps zero are less some room =
    let wide : 1 * s.keep ≤ most * s.keep = mul-le-mul_right s.keep (let le : 1 ≤ most = omega (arith, some) in le) in
    let few : steps < s.keep + s.ahead + 1 = omega (arith, are.most) in
    absurd (omega (
      arith,
      room,
      less (omega (arith, few, wide)),
      steps_size-le s.rate t (steps + 1) (s.keep + s.ahead + 1) (omega (arith, few)),
    ))
some_closed s t len most steps (suc n) are less some room = omega arith

-- ---- room

-- after the windows that are closed no other is
pub still_open : (s : WindowShape) (t n len size : ℕ) → size ≡ steps_size s.rate t (n * s.keep)
    → len < steps_size s.rate t ((n + 1) * s.keep + s.ahead + 1)
    → len - size < steps_size s.rate (t + n * s.keep) (s.keep + s.ahead + 1)
still_open s t n len size es less =
    let steps = s.keep + s.ahead + 1 in
    let sum : (n + 1) * s.keep + s.ahead + 1 ≡ n * s.keep + steps = omega (arith, more_times n s.keep) in
    let some = steps_size-least s.rate (t + n * s.keep) steps in
    omega (arith, es, less, some, ap (λ (m : ℕ). steps_size s.rate t m) sum, steps_size-add s.rate t (n * s.keep) steps)

-- what closes `count` windows closes n, where these are no more
pub fewer_held : (q : Queueing) (n count : ℕ) → n ≤ count → HoldsRun q count → HoldsRun q n
fewer_held q n count le room =
    let s = q.windows.settings in
    omega (
      arith,
      room,
      steps_size-le s.rate q.t (n * s.keep + s.ahead + 1) (count * s.keep + s.ahead + 1)
          (omega (arith, (let wide : n * s.keep ≤ count * s.keep = mul-le-mul_right s.keep le in wide))),
    )

-- the octets that are held close no more than `count` windows
abbrev pub IsMost : Queueing → ℕ → Type 0
IsMost q count = length q.held < steps_size q.windows.settings.rate q.t
    ((count + 1) * q.windows.settings.keep + q.windows.settings.ahead + 1)

-- octets for which there is room close no more windows than are decoded at a time
pub most_held : (q : Queueing) → 0 < q.windows.settings.keep → length q.held ≤ room_of q → IsMost q q.most
most_held q some room =
    let s = q.windows.settings in
    let limit : ℕ = q.most * s.keep + s.ahead + 1 in
    omega (
      arith,
      room,
      steps_size-more s.rate q.t limit,
      step_size_pos s.rate (q.t + limit),
      steps_size-le s.rate q.t (limit + 1) ((q.most + 1) * s.keep + s.ahead + 1)
          (omega (arith, more_times q.most s.keep, some)),
    )

pub no_more_held : (q : Queueing) (count : ℕ) → IsMost q q.most → (count < q.most → IsMost q count) → IsMost q count
no_more_held q count room less = elim (cases_lt count q.most) as (λ _. IsMost q count) [
  | inl few ↦ less few
  | inr there ↦ (let wide : q.most * s.keep ≤ count * s.keep = mul-le-mul_right s.keep there in
      omega (
        arith,
        room,
        steps_size-le s.rate q.t ((q.most + 1) * s.keep + s.ahead + 1) ((count + 1) * s.keep + s.ahead + 1)
            (omega (arith, wide, more_times count s.keep, more_times q.most s.keep)),
      ))
]
  where
    s : Settings
    s = q.windows.settings

-- there is room for an octet more, as long as no window is closed
pub open_room : (q : Queueing) → 0 < q.most → length q.held < closing_size q.windows.settings q.t
    → length q.held < room_of q
open_room q some less =
    let s = q.windows.settings in
    let one : 1 * s.keep ≤ q.most * s.keep = mul-le-mul_right s.keep
    (let le : 1 ≤ q.most = omega (arith, some) in le) in
    omega (
      arith,
      less,
      steps_size-le s.rate q.t (s.keep + s.ahead + 1) (q.most * s.keep + s.ahead + 1)
          (omega (arith, one)),
    )

-- ---- once the phase is chosen

pub after_phase : (q : Queueing) (given : List ℕ) (done : List WindowBlock) → QueueStandsFor q given done
    → (AwaitsPhase q → ⊥) → AfterPhase q given done
after_phase q given done (inl before) chosen = absurd (chosen before.awaits)
after_phase q given done (inr after) chosen = after

pub open-few : (q : Queueing) → IsOpen q → (AwaitsPhase q → ⊥) → length q.held < closing_size q.windows.settings q.t
open-few q is chosen = elim is.few as (λ _. length q.held < closing_size q.windows.settings q.t) [
  | inl awaits ↦ absurd (chosen awaits.0)
  | inr few ↦ few.1
]

-- what is looked at where it was not decided yet how many octets are dropped before the next window
abbrev pub IsDecided : Queueing → Type 0
IsDecided q = q.dropped ≡ None → (steps : ℕ) × (q.windows.seen ≡ Some steps)
    × (length q.held < octets_seen q.windows.settings.rate q.t steps)

pub open-decided : (q : Queueing) → IsOpen q → (AwaitsPhase q → ⊥) → IsDecided q
open-decided q is chosen none = elim (is.unseen none) as (λ _. (steps : ℕ) × (q.windows.seen ≡ Some steps)
    × (length q.held < octets_seen q.windows.settings.rate q.t steps)) [
      | inl awaits ↦ absurd (chosen awaits)
      | inr found ↦ found
    ]

-- where the octets that are held begin
abbrev pub held_place : Queueing → Place
held_place q = place_of q.starts q.t q.held

-- ---- what is due

-- where it was decided how many octets are dropped the next window begins there, and else it is
-- looked for there; in either case it
-- is not closed
open-at : (w : Windows) (spot : Spot) (dropped : Option ℕ) (at : Place) → IsAt w spot dropped at
    → length at.octets < closing_size w.settings at.t
    → IsOpenAt w spot
open-at w spot None at h less =
    inl (subst (λ (v : Spot). length v.place.octets < closing_size w.settings v.place.t) (sym h) less)
open-at w spot (Some k) at h less = inr (record { dropped = k; place = at }, h, less)

-- all windows but the last are closed
pub open-due : (q : Queueing) (given : List ℕ) (done : List WindowBlock) → AfterPhase q given done
    → length q.held < closing_size q.windows.settings q.t
    → AreDueIn q.windows (drop (skip_of q.chosen) given) done
open-due q given done r less = record {
  to = r.to;
  closed = r.closed;
  is_open = open-at q.windows r.to q.dropped (held_place q) r.at less;
}

-- the closed windows after a spot whose octets go on there
ends_at : HasBest → (w : Windows) → IsSeen w → 0 < w.settings.keep → (spot : Spot) (dropped : Option ℕ) (at : Place)
    → IsAt w spot dropped at
    → MayStart at → Ends w spot
ends_at best w seen wide spot None at h may =
    subst (λ (v : Spot). Ends w v) (sym h) (ends best w seen wide (length at.octets)
    (record { place = at; decided = None }) may (omega arith))
ends_at best w seen wide spot (Some k) at h may =
    ends_from best w seen wide spot (record { dropped = k; place = at }) h may

-- where they end no window is closed
ends-open : (w : Windows) → IsSeen w → (spot : Spot) (e : Ends w spot) → IsOpenAt w e.to
ends-open w seen spot e = go e.begins
  where
    go : BeginsLast w e.to e.window → IsOpenAt w e.to
    go (inl begins) = inr (e.window, begins, e.few)
    go (inr unseen) = inl (unseen-open w e.to seen unseen.0)

ends-few : (w : Windows) (spot to : Spot) (dropped : Option ℕ) (at : Place) (blocks : List WindowBlock) (count : ℕ)
    → IsAt w spot dropped at
    → length at.octets < steps_size w.settings.rate at.t ((count + 1) * w.settings.keep + w.settings.ahead + 1)
    → Followed w spot blocks to
    → length blocks ≤ count
ends-few w spot to dropped at [] count h most closed = omega arith
ends-few w spot to dropped at (x ∷ xs) count h most closed =
    let s = w.settings in
    let n : ℕ = length (x ∷ xs) in
    let within = at-within w spot dropped at h closed.0 closed.1 in
    elim (cases_lt count n) as (λ _. length (x ∷ xs) ≤ count) [
      | inl less ↦ absurd
          (let wide : (count + 1) * s.keep ≤ n * s.keep = mul-le-mul_right s.keep
          (let le : count + 1 ≤ n = omega (arith, less) in le) in
          omega (
            arith,
            followed-long w spot to x xs closed,
            within.1,
            ap (λ (t : ℕ). steps_size s.rate t (n * s.keep + s.ahead + 1)) within.0,
            most,
            steps_size-le s.rate at.t ((count + 1) * s.keep + s.ahead + 1) (n * s.keep + s.ahead + 1)
                (omega (arith, wide)),
          ))
      | inr le ↦ le
    ]

-- what is due after the blocks of the windows so far
abbrev pub DueAfter : Queueing → List ℕ → List WindowBlock → ℕ → Type 0
DueAfter q given done count =
    (more : List WindowBlock) × (length more ≤ count) × (q.windows.seen ≡ None → length more ≡ count)
    × AreDueIn q.windows (drop (skip_of q.chosen) given) (done ++ more)

-- the windows that the octets held close are due
pub due_after : HasBest → (q : Queueing) (given : List ℕ) (done : List WindowBlock) (count : ℕ)
    → ForSome q.starts (λ register. register < 64) → IsSeen q.windows → 0 < q.windows.settings.keep
    → (q.windows.seen ≡ None → q.dropped ≡ Some 0) → (0 < count → HoldsRun q count) → IsMost q count
    → AfterPhase q given done → DueAfter q given done count
due_after exists q given done count some looks wide unfollowed room most r = go w.seen refl
  where
    w : Windows
    w = q.windows

    s : WindowShape
    s = record {
      rate = w.settings.rate;
      invert = w.settings.invert;
      keep = w.settings.keep;
      ahead = w.settings.ahead;
    }

    from : Spot
    from = first_spot w (drop (skip_of q.chosen) given)

    at : Place
    at = held_place q

    go : (seen : Option ℕ) → w.seen ≡ seen → DueAfter q given done count
    go None none =
        let size : ℕ = steps_size s.rate q.t (count * s.keep) in
        let run = has_windows exists s count at some room in
        let there : steps_size s.rate run.to.t (s.keep + s.ahead + 1)
        ≡ steps_size s.rate (q.t + count * s.keep) (s.keep + s.ahead + 1)
        = ap (λ (u : ℕ). steps_size s.rate u (s.keep + s.ahead + 1)) run.place in
        let begins = subst (λ (o : Option ℕ). IsAt w r.to o at) (unfollowed none) r.at in
        let runs = runs-to w from r.to done run.blocks at run.to r.closed begins run.closed
        (unfollowed-all w none q.t (length run.blocks) at.octets) in
        let few : length run.to.octets < steps_size s.rate run.to.t (s.keep + s.ahead + 1) =
        omega (arith, run.octets, there, still_open s q.t count (length q.held) size refl most) in (
          run.blocks,
          omega (arith, run.long),
          λ _. run.long,
          record {
            to = runs.to;
            closed = runs.closed;
            is_open = inr
                (record { dropped = 0; place = run.to }, runs.begins none, few);
          },
        )
    go (Some steps) is =
        let e = ends_at exists w looks wide r.to q.dropped at r.at some in (
          e.done,
          ends-few w r.to e.to q.dropped at e.done count r.at most e.closed,
          λ none. absurd (let both = sym is ∙ none in cc),
          record {
            to = e.to;
            closed = followed-both w from r.to e.to done e.done r.closed e.closed;
            is_open = ends-open w looks r.to e;
          },
        )

-- ---- no more than if no octet were dropped

-- octets have no more windows that are closed than those whose blocks are due
due_few : (s : Settings) (octets : List ℕ) (blocks : List WindowBlock) → AreDue s octets blocks
    → length octets < steps_size s.rate 0 ((length blocks + 1) * s.keep + s.ahead + 1)
due_few s octets blocks h =
    let from = first_place s octets in
    let kept : ℕ = kept_of blocks in
    let size : ℕ = s.keep + s.ahead + 1 in
    let sum : kept + size ≡ (length blocks + 1) * s.keep + s.ahead + 1 =
    omega (arith, closed-steps s from h.to blocks h.closed, more_times (length blocks) s.keep) in
    let less : length h.to.octets < steps_size s.rate (0 + kept) size =
    subst (λ (t : ℕ). length h.to.octets < steps_size s.rate t size)
    (closed-kept s from h.to blocks h.closed) h.few in
    omega (
      arith,
      less,
      closed-octets s from h.to blocks h.closed,
      steps_size-add s.rate 0 kept size,
      ap (steps_size s.rate 0) sum,
    )

-- all octets have the steps of the windows that are closed, with those that the octets held close,
-- and one more
reached_by : (q : Queueing) (given : List ℕ) (done : List WindowBlock) (count : ℕ)
    → HoldsRun q count → AfterPhase q given done
    → steps_size q.windows.settings.rate 0
    ((length done + count) * q.windows.settings.keep + q.windows.settings.ahead + 1)
    ≤ length (drop (skip_of q.chosen) given)
reached_by q given done count room r =
    let w = q.windows in
    let s = w.settings in
    let from = first_spot w (drop (skip_of q.chosen) given) in
    let kept : ℕ = kept_of done in
    let size : ℕ = count * s.keep + s.ahead + 1 in
    let sum : kept + size ≡ (length done + count) * s.keep + s.ahead + 1 =
    omega (arith, followed-steps w from r.to done r.closed, add-mul (length done) count s.keep) in
    let here : 0 + kept ≡ q.t = omega (arith, r.kept) in
    omega (
      arith,
      room,
      (followed-taken w from r.to done r.closed).octets,
      at-few w r.to q.dropped (held_place q) r.at,
      ap (λ (t : ℕ). steps_size s.rate t size) here,
      steps_size-add s.rate 0 kept size,
      ap (steps_size s.rate 0) sum,
    )

-- with the windows that the octets held close there are no more than are due if no octet is dropped
pub undropped_most : (q : Queueing) (given : List ℕ) (done plain : List WindowBlock) (count : ℕ)
    → (0 < count → HoldsRun q count) → AfterPhase q given done
    → AreDue q.windows.settings (drop (skip_of q.chosen) given) plain
    → length done + count ≤ length plain
undropped_most q given done plain zero room r due =
    let w = q.windows in
    let octets = drop (skip_of q.chosen) given in
    let from = first_spot w octets in
    let most = due_few w.settings octets plain due in
    omega (arith, ends-few w from r.to (Some 0) from.place done (length plain) refl most r.closed)
undropped_most q given done plain (suc n) room r due =
    let s = q.windows.settings in
    let count : ℕ = length done + suc n in
    elim (cases_lt (length plain) count) as (λ _. length done + suc n ≤ length plain) [
      | inl less ↦ absurd
          (let wide : (length plain + 1) * s.keep ≤ count * s.keep = mul-le-mul_right s.keep
          (let le : length plain + 1 ≤ count = omega (arith, less) in le) in
          omega (
            arith,
            reached_by q given done (suc n) (room (omega arith)) r,
            due_few s (drop (skip_of q.chosen) given) plain due,
            steps_size-le s.rate 0 ((length plain + 1) * s.keep + s.ahead + 1)
                (count * s.keep + s.ahead + 1) (omega (arith, wide)),
          ))
      | inr le ↦ le
    ]

-- ---- the last window

-- all whole steps of octets that close no window
pub last_whole : (q : Queueing) (n : ℕ)
    → (n < q.windows.settings.keep + q.windows.settings.ahead
    → length q.held < steps_size q.windows.settings.rate q.t (n + 1))
    → n ≤ q.windows.settings.keep + q.windows.settings.ahead
    → length q.held < closing_size q.windows.settings q.t
    → length q.held < steps_size q.windows.settings.rate q.t (n + 1)
last_whole q n less le few = elim (cases_lt n (s.keep + s.ahead)) as
    (λ _. length q.held < steps_size s.rate q.t (n + 1)) [
      | inl lt ↦ less lt
      | inr there ↦ (let same : n + 1 ≡ s.keep + s.ahead + 1 = omega (arith, le, there) in omega
          (arith, few, ap (steps_size s.rate q.t) same))
    ]
  where
    s : Settings
    s = q.windows.settings

-- where the last window begins
abbrev pub last_beginning : Queueing → Beginning
last_beginning q = record { dropped = unwrap_or q.dropped 0; place = held_place q }

-- the blocks of all octets, once the last window is decoded
pub ended : (q : Queueing) (given : List ℕ) (done last : List WindowBlock) (n size : ℕ)
    → size ≡ steps_size q.windows.settings.rate q.t n → size ≤ length q.held
    → length q.held < steps_size q.windows.settings.rate q.t (n + 1)
    → n ≤ q.windows.settings.keep + q.windows.settings.ahead → IsDecided q
    → AfterPhase q given done → IsLast q.windows.settings (last_beginning q) n last
    → AreBlocksIn q.windows (drop (skip_of q.chosen) given) (done ++ last) (length q.held - size)
ended q given done last n size is whole most few decided r are = record {
  done = done;
  to = r.to;
  closed = r.closed;
  window = last_beginning q;
  begins = last-begins q.windows r.to q.dropped (held_place q) r.at decided;
  count = n;
  steps = record { whole = omega (arith, is, whole); most = most };
  few = few;
  last = last;
  is_last = are;
  are = refl;
  rest = omega (arith, is, whole);
}
