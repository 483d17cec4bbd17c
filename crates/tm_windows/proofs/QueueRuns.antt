-- Runs of windows that are decoded at once, of which the first may begin after dropped octets.
use Rattle.std.proofs.Common.{◌≡◌, ◌⊎◌, inl, inr, Bool, true, false, ℕ, ◌+◌, ◌*◌, ◌<◌, ◌≤◌, ◌∙◌, ◌++◌, refl, sym, ap, subst, arith, List, [], ◌∷◌, Option, Some, None, is_some, drop, length, length-drop, map, mul-le-mul_right, set, get_or, slice_index_or, take, unwrap_or}
use Rattle.std.specs.Option.{ForSome}
use Rattle.std.proofs.lemmas.List.{drop-append-le, length-take-le, take-append-drop}
use Rattle.tm_conv.specs.Path.{farthest_step, steps_size}
use Rattle.tm_conv.proofs.Sizes.{steps_size-le, steps_size-add, steps_size-least}
use Rattle.tm_viterbi.specs.WindowBlock.{WindowBlock}
use Rattle.tm_viterbi.specs.Due.{Place, Closed, after_block}
use Rattle.tm_viterbi.specs.declared.window_decoder.WindowShape.{WindowShape}
use Rattle.tm_viterbi.proofs.Closing.{Closed-append, kept_is, more_octets}
use Rattle.tm_windows.specs.Candidates.{ClosedWith, after_windows, block_of}
use Rattle.tm_windows.specs.Queue.{Queueing, AfterPhase, AwaitsPhase, HoldsNoMore, HoldsRun, IsAt, IsOpen, IsRead, IsThere, QueueStandsFor, phase_size, shape_of, skip_of}
use Rattle.tm_windows.specs.Phase.{most_period_size}
use Rattle.tm_windows.specs.Slip.{octets_seen}
use Rattle.tm_windows.specs.Windows.{Windows, Spot, Begins, Followed, AreUndropped, IsSeen, dropped_at, dropped_of, first_spot, kept_of, slip_at, slips_of, undecided}
use Rattle.tm_windows.specs.declared.candidate.Candidate.{Candidate}
use Rattle.tm_windows.proofs.FollowedExists.{seen-first}
use Rattle.tm_windows.proofs.FollowedRuns.{place_of, at-undecided, closed-dropped, closed-kept, closed-slips, closed-steps, closes-dropped, dropped-append, followed-both, kept-append, later-undropped, next-undropped, run-followed, slips-append, undropped-begins}
use Rattle.tm_windows.proofs.HeldOctets.{held_place}
use Rattle.tm_windows.proofs.ReadOctets.{kept-ready, paths-ready, read-octets}
use Rattle.tm_windows.proofs.Runs.{more_times}

-- ---- the octets of a run

-- how many octets have the windows, and how many those of their kept steps
pub record IsCut (q : Queueing) (count m size : ℕ) : Type 0 where
  pub inside : m ≤ length q.held
  pub within : size ≤ m
  pub some : 0 < size
  pub wide : 0 < count * q.windows.settings.keep
  pub long : count * q.windows.settings.keep ≤ size

pub is_cut : (q : Queueing) (count m size : ℕ) → 0 < q.windows.settings.keep → 0 < count → HoldsRun q count
    → m ≡ steps_size q.windows.settings.rate q.t (count * q.windows.settings.keep + q.windows.settings.ahead + 1)
    → size ≡ steps_size q.windows.settings.rate q.t (count * q.windows.settings.keep) → IsCut q count m size
is_cut q count m size wide some room is size_is =
    let s = q.windows.settings in
    let one : 1 * s.keep ≤ count * s.keep = mul-le-mul_right s.keep (let le : 1 ≤ count = omega (arith, some) in le) in
    let least = steps_size-least s.rate q.t (count * s.keep) in
    record {
      inside = omega (arith, room, is);
      within =
          omega (
            arith,
            is,
            size_is,
            steps_size-le s.rate q.t (count * s.keep) (count * s.keep + s.ahead + 1) (omega arith),
          );
      some = omega (arith, size_is, least, one, wide);
      wide = omega (arith, one, wide);
      long = omega (arith, size_is, least);
    }

-- after them no more is held than before
no_more_left : (q : Queueing) (t n size left : ℕ) → t ≡ q.t + n → size ≡ steps_size q.windows.settings.rate q.t n
    → left + size ≡ length q.held → HoldsNoMore q
    → left < steps_size q.windows.settings.rate t
    ((q.most + 1) * q.windows.settings.keep + q.windows.settings.ahead + 1)
no_more_left q t n size left et es sum less =
    let s = q.windows.settings in
    let most : ℕ = (q.most + 1) * s.keep + s.ahead + 1 in
    omega (
      arith,
      less,
      sum,
      es,
      ap (λ (u : ℕ). steps_size s.rate u most) et,
      steps_size-add s.rate q.t n most,
      steps_size-le s.rate q.t most (n + most) (omega arith),
    )

-- windows that the first of the octets held close, whatever comes after them
closed_held : (s : WindowShape) (starts next : Option ℕ) (t m count : ℕ) (held : List ℕ) (blocks : List WindowBlock)
    → steps_size s.rate t (count * s.keep) ≤ m → m ≤ length held
    → ClosedWith s (place_of starts t (take m held)) blocks (after_windows s t (take m held) count next)
    → ClosedWith s (place_of starts t held) blocks (after_windows s t held count next)
unfolding more_octets
closed_held s starts next t m count held blocks within inside h =
    let size : ℕ = steps_size s.rate t (count * s.keep) in
    let prefix = take m held in
    let whole = take-append-drop m held in
    let octets : drop size prefix ++ drop m held ≡ drop size held
    = sym (drop-append-le size prefix (drop m held) (omega (arith, within, length-take-le m held inside)))
    ∙ ap (drop size) whole in
    subst (λ (o : List ℕ). ClosedWith s (place_of starts t o) blocks (after_windows s t held count next)) whole
    (subst (λ (o : List ℕ). ClosedWith s (place_of starts t (prefix ++ drop m held)) blocks
    (place_of next (t + count * s.keep) o)) octets
    (Closed-append s.rate s.invert s.keep s.ahead (place_of starts t prefix) (after_windows s t prefix count next)
    blocks (drop m held) h))

-- ---- the blocks of a run

-- closed windows from where the first begins, with nothing dropped before the others
runs-from : (w : Windows) (spot : Spot) (k : ℕ) (at to : Place) (x : WindowBlock) (xs : List WindowBlock)
    → Begins w spot (record { dropped = k; place = at })
    → Closed w.settings.rate w.settings.invert w.settings.keep w.settings.ahead at (x ∷ xs) to
    → AreUndropped w at.t at.octets (length (x ∷ xs))
    → Followed w spot (dropped_at k x ∷ xs) (record { place = to; decided = None })
runs-from w spot k at to x [] begins h still = (
  record { dropped = k; place = at },
  begins,
  closes-dropped w.settings (record { dropped = k; place = at }) x h.0,
  ap (λ (p : Place). let next : Spot = record { place = p; decided = None } in next) h.1,
)
runs-from w spot k at to x (y ∷ ys) begins h still =
    let s = w.settings in
    let next = after_block s.rate at x in
    let kept : x.kept ≡ s.keep = h.0.is_block.kept ∙ kept_is s.keep s.ahead in
    let count : ℕ = length (x ∷ y ∷ ys) in
    let second = undropped-begins w next (next-undropped w at.t x.kept count at.octets kept (omega arith) still) in (
      record { dropped = k; place = at },
      begins,
      closes-dropped s (record { dropped = k; place = at }) x h.0,
      run-followed w (record { place = next; decided = None }) next to y ys second h.1
          (later-undropped w at.t x.kept count (length (y ∷ ys)) at.octets kept (omega arith) still),
    )

-- the blocks of candidates, with k octets dropped before the first of them
pub record AreDroppedFirst (candidates changed : List Candidate) (k : ℕ) : Type 0 where
  pub first : WindowBlock
  pub others : List WindowBlock
  pub before : map block_of candidates ≡ first ∷ others
  pub after : map block_of changed ≡ dropped_at k first ∷ others

pub dropped_first : (candidates : List Candidate) (k : ℕ) (c d : Candidate) → 0 < length candidates
    → c ≡ get_or candidates 0 c → block_of d ≡ dropped_at k (block_of c)
    → AreDroppedFirst candidates (set candidates 0 d) k
dropped_first [] k c d some is same = absurd (omega (arith, some))
dropped_first (x ∷ xs) k c d some is same = record {
  first = block_of x;
  others = map block_of xs;
  before = refl;
  after = λ i. (same ∙ ap (λ (v : Candidate). dropped_at k (block_of v)) is) i ∷ map block_of xs;
}

-- nothing is dropped before those after the first
pub later-undropped_of : (s : WindowShape) (k : ℕ) (at to : Place) (x : WindowBlock) (xs ready : List WindowBlock)
    → ready ≡ dropped_at k x ∷ xs → ClosedWith s at (x ∷ xs) to → dropped_of (drop 1 ready) ≡ 0
later-undropped_of s k at to x xs ready are h =
    ap (λ (l : List WindowBlock). dropped_of (drop 1 l)) are ∙ others xs (after_block s.rate at x) h.1
  where
    others : (xs : List WindowBlock) (from : Place) → ClosedWith s from xs to → dropped_of xs ≡ 0
    others [] from h = refl
    others (x ∷ xs) from h = omega (arith, h.0.is_block.dropped, others xs (after_block s.rate from x) h.1)

-- ---- the queue after a run

-- the run that it holds: `count` windows, the first of them after k dropped octets
pub record IsRun (q : Queueing) (k count : ℕ) : Type 0 where
  pub dropped : q.dropped ≡ Some k
  pub some : 0 < count
  pub room : HoldsRun q count
  pub undropped : AreUndropped q.windows q.t q.held count
  pub wide : 0 < q.windows.settings.keep

pub is_decided : (dropped : Option ℕ) (d k : ℕ) → dropped ≡ Some d → k ≡ unwrap_or dropped 0 → dropped ≡ Some k
is_decided dropped d k is es = is ∙ ap (λ (n : ℕ). Some n) (sym (es ∙ ap (λ (o : Option ℕ). unwrap_or o 0) is))

pub undecided-few : (looks : Bool) → ForSome (undecided looks) (λ count. count ≤ most_period_size)
undecided-few false count is = omega (arith, ap (λ (o : Option ℕ). unwrap_or o 0) is)
undecided-few true count is = absurd (let both = is in cc)

-- it stands for octets after the phase
pub decided_after : (q : Queueing) (given : List ℕ) (done : List WindowBlock) (k : ℕ) → q.dropped ≡ Some k
    → QueueStandsFor q given done → AfterPhase q given done
decided_after q given done k is (inl before) =
    absurd (let both : Some k ≡ None = sym is ∙ before.undecided in cc)
decided_after q given done k is (inr after) = after

-- the run's windows are closed with these blocks by the first octets
abbrev pub ClosesRun : Queueing → (count m : ℕ) → List WindowBlock → Option ℕ → Type 0
ClosesRun q count m blocks next = ClosedWith (shape_of q) (place_of q.starts q.t (take m q.held)) blocks
    (after_windows (shape_of q) q.t (take m q.held) count next)

-- where they are decoded
abbrev pub after_run : Queueing → (count slips lost : ℕ) → (next dropped : Option ℕ) → (left read : List ℕ)
    → List WindowBlock → Queueing
after_run q count slips lost next dropped left read ready = record q {
  starts = next;
  t = q.t + count * q.windows.settings.keep;
  dropped = dropped;
  slips = q.slips + slips;
  lost = q.lost + lost;
  held = left;
  ready = ready;
  run_t = q.t;
  read = read;
}

pub run-decoded : (q : Queueing) (given : List ℕ) (done : List WindowBlock) (k count m slips lost : ℕ)
    (next dropped : Option ℕ) (left read : List ℕ) (x : WindowBlock) (xs ready : List WindowBlock) → IsRun q k count
    → m ≡ steps_size q.windows.settings.rate q.t (count * q.windows.settings.keep + q.windows.settings.ahead + 1)
    → left ≡ drop (steps_size q.windows.settings.rate q.t (count * q.windows.settings.keep)) q.held
    → slips ≡ slip_at k → lost ≡ k → dropped ≡ undecided (is_some q.windows.seen)
    → ready ≡ dropped_at k x ∷ xs → length ready ≡ count → ClosesRun q count m (x ∷ xs) next
    → AfterPhase q given done
    → AfterPhase (after_run q count slips lost next dropped left read ready) given (done ++ ready)
run-decoded q given done k count m slips lost next dropped left read x xs ready run is left_is slips_is lost_is
    undecided_is are long closes r =
    let w = q.windows in
    let s = w.settings in
    let size : ℕ = steps_size s.rate q.t (count * s.keep) in
    let cut = is_cut q count m size run.wide run.some run.room is refl in
    let at = held_place q in
    let to = place_of next (q.t + count * s.keep) left in
    let here : Closed s.rate s.invert s.keep s.ahead at (x ∷ xs) to =
    subst (λ (o : List ℕ). Closed s.rate s.invert s.keep s.ahead at (x ∷ xs)
    (place_of next (q.t + count * s.keep) o)) (sym left_is)
    (closed_held (shape_of q) q.starts next q.t m count q.held (x ∷ xs) cut.within cut.inside closes) in
    let begins : Begins w r.to (record { dropped = k; place = at }) =
    subst (λ (o : Option ℕ). IsAt w r.to o at) run.dropped r.at in
    let spot : Spot = record { place = to; decided = None } in
    let many : count ≡ length (x ∷ xs) = sym long ∙ ap length are in
    let followed = runs-from w r.to k at to x xs begins here
    (subst (λ (n : ℕ). AreUndropped w q.t q.held n) many run.undropped) in
    record {
      choice = r.choice;
      enough = r.enough;
      to = spot;
      closed =
          followed-both w (first_spot w (drop (skip_of q.chosen) given)) r.to spot done ready r.closed
          (subst (λ (v : List WindowBlock). Followed w r.to v spot) (sym are) followed);
      at = subst (λ (o : Option ℕ). IsAt w spot o to) (sym undecided_is) (at-undecided w w.seen refl spot to refl);
      few =
          no_more_left q (q.t + count * s.keep) (count * s.keep) size (length left) refl refl
          (omega (arith, ap length left_is, length-drop size q.held, cut.within, cut.inside)) r.few;
      kept = omega (arith, r.kept, kept-append done ready, ap kept_of are, closed-kept s at to (x ∷ xs) here);
      slips =
          omega (
            arith,
            r.slips,
            slips-append done ready,
            ap slips_of are,
            closed-slips s at to (x ∷ xs) here,
            slips_is,
          );
      lost =
          omega (
            arith,
            r.lost,
            dropped-append done ready,
            ap dropped_of are,
            closed-dropped s at to (x ∷ xs) here,
            lost_is,
          );
    }

-- ---- the octets of a run

-- they are there once its windows are decoded
pub run-there : (q : Queueing) (k count m slips lost : ℕ) (next dropped : Option ℕ) (left read : List ℕ)
    (x : WindowBlock) (xs ready : List WindowBlock) → IsRun q k count → read ≡ q.held
    → ready ≡ dropped_at k x ∷ xs → length ready ≡ count → ClosesRun q count m (x ∷ xs) next
    → q.t + length q.held < farthest_step
    → IsThere (after_run q count slips lost next dropped left read ready)
run-there q k count m slips lost next dropped left read x xs ready run read_is are long closes few =
    let s = q.windows.settings in
    let from = place_of q.starts q.t (take m q.held) in
    let to = after_windows (shape_of q) q.t (take m q.held) count next in
    let many : length (x ∷ xs) ≡ count = sym (ap length are) ∙ long in
    let kept : kept_of (x ∷ xs) ≡ count * s.keep =
    closed-steps s from to (x ∷ xs) closes ∙ ap (λ (n : ℕ). n * s.keep) many in
    let before = kept-ready s k from to x xs closes in
    let paths = paths-ready s k from to x xs closes in
    subst (λ (v : List WindowBlock). IsThere (after_run q count slips lost next dropped left read v)) (sym are)
    (record {
      octets = λ index block less.
          let n : ℕ = kept_of (take index (dropped_at k x ∷ xs))
          + (slice_index_or (dropped_at k x ∷ xs) index block).steps in
          let more : (index + 1) * s.keep ≤ count * s.keep =
          mul-le-mul_right s.keep (let le : index + 1 ≤ count = omega (arith, less, many) in le) in
          omega (
            arith,
            run.room,
            ap length read_is,
            steps_size-le s.rate q.t n (count * s.keep + s.ahead + 1)
                (omega (arith, before index less, (paths index block less).few, more_times index s.keep, more)),
          );
      few = omega (arith, kept);
      bound = omega (arith, ap length read_is, few);
      paths = paths;
      kept = before;
    })

-- and they are those that were put in
pub run-read : (q : Queueing) (given : List ℕ) (done : List WindowBlock) (k count m slips lost : ℕ)
    (next dropped : Option ℕ) (left read : List ℕ) (x : WindowBlock) (xs ready : List WindowBlock) → IsRun q k count
    → read ≡ q.held → ready ≡ dropped_at k x ∷ xs → ClosesRun q count m (x ∷ xs) next → AfterPhase q given done
    → IsRead (after_run q count slips lost next dropped left read ready) given done
run-read q given done k count m slips lost next dropped left read x xs ready run read_is are closes r =
    let from = place_of q.starts q.t (take m q.held) in
    let to = after_windows (shape_of q) q.t (take m q.held) count next in
    let lost_is : dropped_of ready ≡ k =
    omega (arith, ap dropped_of are, closed-dropped q.windows.settings from to (x ∷ xs) closes) in
    record {
      step = sym r.kept;
      octets =
          read-octets q given read done ready k r (sym (ap (λ (o : Option ℕ). unwrap_or o 0) run.dropped)) lost_is
          read_is;
    }

-- ---- what a queue stands for

-- whatever blocks are said to be ready, and by how many workers
pub stands-ready : (q : Queueing) (given : List ℕ) (done ready : List WindowBlock) (by : ℕ)
    → QueueStandsFor q given done → QueueStandsFor (record q { ready = ready; by = by }) given done
stands-ready q given done ready by (inl b) = inl (record {
  awaits = b.awaits;
  going = b.going;
  held = b.held;
  few = b.few;
  nothing = b.nothing;
  starts = b.starts;
  first = b.first;
  undecided = b.undecided;
  undropped = b.undropped;
  nothing_lost = b.nothing_lost;
})
stands-ready q given done ready by (inr a) = inr (record {
  choice = a.choice;
  enough = a.enough;
  to = a.to;
  closed = a.closed;
  at = a.at;
  few = a.few;
  kept = a.kept;
  slips = a.slips;
  lost = a.lost;
})

-- too few octets are held to decide how many are dropped before the next window
abbrev pub IsUndecided : Queueing → Type 0
IsUndecided q = (q.dropped ≡ None)
    × ((AwaitsPhase q × (length q.held < phase_size q)) ⊎ ((AwaitsPhase q → ⊥) × ((steps : ℕ)
    × (q.windows.seen ≡ Some steps) × (length q.held < octets_seen q.windows.settings.rate q.t steps))))

-- then they close none
pub undecided-open : (q : Queueing) → IsSeen q.windows → IsUndecided q → IsOpen q
undecided-open q looks (none, inl awaits) = record { few = inl awaits; unseen = λ undecided. inl awaits.0 }
undecided-open q looks (none, inr found) =
    let few = (looks found.1.0 found.1.1).1 in
    record {
      few = inr (
        found.0,
        omega (arith, found.1.2, seen-first q.windows.settings q.t found.1.0 few),
      );
      unseen = λ undecided. inr found.1;
    }
