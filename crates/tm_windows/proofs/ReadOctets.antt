-- The octets of windows that were decoded, among those that were put in.
use Rattle.std.proofs.Common.{◌≡◌, ◌⊎◌, inl, inr, ℕ, zero, suc, ◌+◌, ◌*◌, ◌<◌, ◌≤◌, ◌∙◌, ◌++◌, refl, sym, ap, subst, arith, List, [], ◌∷◌, All, Option, Some, None, drop, drop-drop, take, length, slice_index_or, unwrap_or}
use Rattle.std.proofs.lemmas.Bool.Decides.{nat_tests}
use Rattle.std.proofs.lemmas.List.{length-take-le}
use Rattle.std.proofs.lemmas.List.Elements.{All-cons, All-nil, All-take}
use Rattle.tm_conv.specs.Path.{farthest_step, steps_size}
use Rattle.tm_conv.proofs.Clean.{digits}
use Rattle.tm_conv.proofs.Paths.{length-path, steps_size-zero}
use Rattle.tm_conv.proofs.Sizes.{same_from_steps_size, steps_size-add, steps_size-le, steps_size-least}
use Rattle.tm_viterbi.specs.WindowBlock.{WindowBlock}
use Rattle.tm_viterbi.specs.Blocks.{IsBlock, kept_steps, window_steps}
use Rattle.tm_viterbi.specs.Due.{Place, Closed, Closes, after_block}
use Rattle.tm_viterbi.specs.Settings.{Settings}
use Rattle.tm_viterbi.proofs.CleanBlocks.{register-small}
use Rattle.tm_viterbi.proofs.Closing.{kept_is}
use Rattle.tm_windows.specs.Windows.{Windows, Beginning, Spot, first_spot, DropsBy, BeginsBy, Followed, spot_after, dropped_at, dropped_of, kept_of, undropped}
use Rattle.tm_windows.specs.Queue.{Queueing, AfterPhase, IsAt, IsThere, IsWindowPath, skip_of, window_size}
use Rattle.tm_windows.proofs.Beginnings.{begins-within}
use Rattle.tm_windows.proofs.FollowedRuns.{place_of, dropped-append}
use Rattle.tm_windows.proofs.Runs.{more_times}

-- no octet was dropped at the spot yet
abbrev pub IsPlain : Option ℕ → Type 0
IsPlain decided = (decided ≡ None) ⊎ (decided ≡ Some 0)

-- a window after it begins after the octets that are dropped
begins-octets : (w : Windows) (decided : Option ℕ) (at : Place) (b : Beginning) → IsPlain decided
    → BeginsBy w decided at b → b.place.octets ≡ drop b.dropped at.octets
begins-octets w decided at b plain h = go decided plain h
  where
    moved-by : (k : ℕ) → k ≡ 0 → b ≡ record { dropped = k; place = at } → b.place.octets ≡ drop b.dropped at.octets
    moved-by k none is =
        ap (λ (v : Beginning). v.place.octets) is
        ∙ ap (λ (n : ℕ). drop n at.octets) (sym (ap (λ (v : Beginning). v.dropped) is ∙ none))

    looked : (seen : Option ℕ) → DropsBy w.settings seen at b → b.place.octets ≡ drop b.dropped at.octets
    looked None is = moved-by 0 refl is
    looked (Some steps) is = ap (λ (p : Place). p.octets) is.2

    go : (decided : Option ℕ) → IsPlain decided → BeginsBy w decided at b → b.place.octets ≡ drop b.dropped at.octets
    go None plain is = looked w.seen is
    go (Some k) (inl none) is = absurd (let both : Some k ≡ None = none in cc)
    go (Some k) (inr zero_is) is = moved-by k (ap (λ (o : Option ℕ). unwrap_or o 0) zero_is) is

-- after closed windows stand the octets after those that were dropped, and after those of the kept steps
pub record IsPast (w : Windows) (from to : Spot) (blocks : List WindowBlock) : Type 0 where
  pub plain : IsPlain to.decided
  pub octets : to.place.octets ≡ drop (dropped_of blocks
      + steps_size w.settings.rate from.place.t (kept_of blocks)) from.place.octets

pub followed-octets : (w : Windows) (from to : Spot) (blocks : List WindowBlock) → IsPlain from.decided
    → Followed w from blocks to → IsPast w from to blocks
followed-octets w from to [] plain h =
    let none : 0 ≡ 0 + steps_size w.settings.rate from.place.t 0 =
    omega (arith, steps_size-zero w.settings.rate from.place.t) in
    subst (λ (v : Spot). IsPast w from v []) h (record {
      plain = plain;
      octets = ap (λ (n : ℕ). drop n from.place.octets) none;
    })
followed-octets w from to (x ∷ xs) plain h =
    let rate = w.settings.rate in
    let b = h.0 in
    let t = b.place.t in
    let rest = followed-octets w (spot_after w.settings b x) to xs (inl refl) h.3 in
    let others : ℕ = dropped_of xs + steps_size rate (t + x.kept) (kept_of xs) in
    let size : ℕ = steps_size rate t x.kept in
    let step = (begins-within w from b h.1).0 in
    let sum : b.dropped + size + others
    ≡ x.dropped + dropped_of xs + steps_size rate from.place.t (x.kept + kept_of xs) =
    omega (
      arith,
      h.2.1,
      steps_size-add rate t x.kept (kept_of xs),
      ap (λ (u : ℕ). steps_size rate u (x.kept + kept_of xs)) step,
    ) in
    record {
      plain = rest.plain;
      octets =
          rest.octets
          ∙ drop-drop others size b.place.octets
          ∙ ap (drop (size + others)) (begins-octets w from.decided from.place b plain h.1)
          ∙ drop-drop (size + others) b.dropped from.place.octets
          ∙ ap (λ (n : ℕ). drop n from.place.octets) (let e : b.dropped + (size + others)
          ≡ x.dropped + dropped_of xs + steps_size rate from.place.t (x.kept + kept_of xs) = omega (arith, sum) in e);
    }

-- the octets that are held stand after those of the windows so far, and those that were dropped
pub held-octets : (q : Queueing) (given : List ℕ) (done : List WindowBlock) → AfterPhase q given done
    → q.held ≡ drop (skip_of q.chosen + (dropped_of done + unwrap_or q.dropped 0)
    + steps_size q.windows.settings.rate 0 (kept_of done)) given
held-octets q given done a = go q.dropped refl a.at
  where
    w : Windows
    w = q.windows

    first : List ℕ
    first = drop (skip_of q.chosen) given

    past : IsPast w (first_spot w first) a.to done
    past = followed-octets w (first_spot w first) a.to done (inr refl) a.closed

    from : ℕ
    from = dropped_of done + steps_size w.settings.rate 0 (kept_of done)

    there : (k : ℕ) → q.held ≡ drop k a.to.place.octets
        → q.held ≡ drop (skip_of q.chosen + (dropped_of done + k) + steps_size w.settings.rate 0 (kept_of done)) given
    there k is =
        is
        ∙ ap (drop k) (past.octets ∙ drop-drop from (skip_of q.chosen) given)
        ∙ drop-drop k (skip_of q.chosen + from) given
        ∙ ap (λ (n : ℕ). drop n given) (let e : skip_of q.chosen + from + k
        ≡ skip_of q.chosen + (dropped_of done + k) + steps_size w.settings.rate 0 (kept_of done) = omega arith in e)

    go : (dropped : Option ℕ) → q.dropped ≡ dropped → IsAt w a.to dropped (place_of q.starts q.t q.held)
        → q.held ≡ drop (skip_of q.chosen + (dropped_of done + unwrap_or dropped 0)
        + steps_size w.settings.rate 0 (kept_of done)) given
    go None is at = there 0 (sym (ap (λ (v : Spot). v.place.octets) at))
    go (Some k) is at =
        there k (begins-octets w a.to.decided a.to.place (record { dropped = k; place = place_of q.starts q.t q.held })
        past.plain at)

-- so the octets from which blocks were decoded are those that were put in
pub read-octets : (q : Queueing) (given read : List ℕ) (done ready : List WindowBlock) (k : ℕ)
    → AfterPhase q given done → k ≡ unwrap_or q.dropped 0 → dropped_of ready ≡ k → read ≡ q.held
    → read ≡ drop (skip_of q.chosen + dropped_of (done ++ ready)
    + steps_size q.windows.settings.rate 0 (kept_of done)) given
read-octets q given read done ready k a ek dropped is =
    let size : ℕ = steps_size q.windows.settings.rate 0 (kept_of done) in
    let past : skip_of q.chosen + (dropped_of done + unwrap_or q.dropped 0) + size
    ≡ skip_of q.chosen + dropped_of (done ++ ready) + size = omega (arith, ek, dropped, dropped-append done ready) in
    is ∙ held-octets q given done a ∙ ap (λ (m : ℕ). drop m given) past

-- ---- the octets of what is ready are there

-- each but the last keeps as many steps
kept-before : (s : Settings) (from to : Place) (blocks : List WindowBlock)
    → Closed s.rate s.invert s.keep s.ahead from blocks to → (index : ℕ) → index < length blocks
    → kept_of (take index blocks) ≡ index * s.keep
kept-before s from to [] h index less = absurd (omega (arith, less))
kept-before s from to (x ∷ xs) h zero less = omega arith
kept-before s from to (x ∷ xs) h (suc n) less =
    let kept : x.kept ≡ s.keep = h.0.is_block.kept ∙ kept_is s.keep s.ahead in
    omega (
      arith,
      kept,
      kept-before s (after_block s.rate from x) to xs h.1 n (omega (arith, less)),
      more_times n s.keep,
    )

-- the first one's dropped octets change nothing of that
pub kept-ready : (s : Settings) (k : ℕ) (from to : Place) (x : WindowBlock) (xs : List WindowBlock)
    → Closed s.rate s.invert s.keep s.ahead from (x ∷ xs) to → (index : ℕ) → index < length (x ∷ xs)
    → kept_of (take index (dropped_at k x ∷ xs)) ≡ index * s.keep
kept-ready s k from to x xs h zero less = kept-before s from to (x ∷ xs) h zero less
kept-ready s k from to x xs h (suc n) less = kept-before s from to (x ∷ xs) h (suc n) less

kept-within : (keep ahead n : ℕ) → kept_steps keep ahead n ≤ window_steps keep ahead n
kept-within keep ahead n = grind (arith, nat_tests)

-- the best path of a window, whatever is dropped before it
path-of : (s : Settings) (starts : Option ℕ) (t remaining k : ℕ) (octets : List ℕ) (block : WindowBlock)
    → steps_size s.rate t block.steps ≤ length octets
    → IsBlock s.rate s.invert s.keep s.ahead starts t remaining octets block
    → IsWindowPath (s.keep + s.ahead) (dropped_at k block)
path-of s starts t remaining k octets block whole is =
    let best = is.best.candidate in
    let bits = All-take (λ bit. bit < 2) block.kept block.bits best.each in
    let size : ℕ = steps_size s.rate t block.steps in
    record {
      start = best.register;
      end = omega (
        arith,
        is.end_state,
        register-small block.start (take block.kept block.bits) best.register
            (digits (take block.kept block.bits) bits),
      );
      bits = bits;
      long =
          same_from_steps_size s.rate t (length block.bits) block.steps
          (sym (length-path s.rate s.invert t block.start block.bits) ∙ best.covers
          ∙ length-take-le size octets whole);
      kept = omega (arith, is.kept, is.steps, kept-within s.keep s.ahead remaining);
      few = omega (arith, is.steps);
    }

closed-path : (s : Settings) (k : ℕ) (from : Place) (block : WindowBlock)
    → Closes s.rate s.invert s.keep s.ahead from block → IsWindowPath (s.keep + s.ahead) (dropped_at k block)
closed-path s k from block h =
    let n : ℕ = s.keep + s.ahead + 1 in
    path-of s from.starts from.t n k from.octets block
    (omega (
      arith,
      h.room,
      steps_size-le s.rate from.t block.steps n (omega (arith, h.is_block.steps)),
    )) h.is_block

paths-of : (s : Settings) (from to : Place) (blocks : List WindowBlock)
    → Closed s.rate s.invert s.keep s.ahead from blocks to → All (IsWindowPath (s.keep + s.ahead)) blocks
paths-of s from to [] h = All-nil (IsWindowPath (s.keep + s.ahead))
paths-of s from to (x ∷ xs) h =
    All-cons (IsWindowPath (s.keep + s.ahead)) x xs (closed-path s x.dropped from x h.0)
    (paths-of s (after_block s.rate from x) to xs h.1)

pub paths-ready : (s : Settings) (k : ℕ) (from to : Place) (x : WindowBlock) (xs : List WindowBlock)
    → Closed s.rate s.invert s.keep s.ahead from (x ∷ xs) to
    → All (IsWindowPath (s.keep + s.ahead)) (dropped_at k x ∷ xs)
paths-ready s k from to x xs h =
    All-cons (IsWindowPath (s.keep + s.ahead)) (dropped_at k x) xs (closed-path s k from x h.0)
    (paths-of s (after_block s.rate from x) to xs h.1)

pub path-last : (s : Settings) (starts : Option ℕ) (t n : ℕ) (octets : List ℕ) (block : WindowBlock)
    → steps_size s.rate t block.steps ≤ length octets
    → IsBlock s.rate s.invert s.keep s.ahead starts t n octets (undropped block)
    → All (IsWindowPath (s.keep + s.ahead)) (block ∷ [])
path-last s starts t n octets block whole is =
    All-cons (IsWindowPath (s.keep + s.ahead)) block []
    (path-of s starts t n block.dropped octets (undropped block) whole is) (All-nil (IsWindowPath (s.keep + s.ahead)))

-- ---- the octets of one of them

pub kept-to : (index : ℕ) (blocks : List WindowBlock) (block : WindowBlock) → index < length blocks
    → kept_of (take index blocks) + (slice_index_or blocks index block).kept ≤ kept_of blocks
kept-to index [] block less = absurd (omega (arith, less))
kept-to zero (x ∷ xs) block less = omega arith
kept-to (suc n) (x ∷ xs) block less = omega (arith, kept-to n xs block (omega (arith, less)))

-- its steps are counted
pub first-few : (q : Queueing) (index : ℕ) (block : WindowBlock) → IsThere q → index < length q.ready
    → q.run_t + index * q.windows.settings.keep + (slice_index_or q.ready index block).steps ≤ farthest_step
first-few q index block there less =
    let n : ℕ = kept_of (take index q.ready) + (slice_index_or q.ready index block).steps in
    omega (
      arith,
      there.octets index block less,
      there.kept index less,
      there.bound,
      steps_size-least q.windows.settings.rate q.run_t n,
    )

-- its octets are among those that are there
pub inside-read : (q : Queueing) (index : ℕ) (block : WindowBlock) → IsThere q → index < length q.ready
    → steps_size q.windows.settings.rate q.run_t (index * q.windows.settings.keep)
    + window_size q index (slice_index_or q.ready index block) ≤ length q.read
inside-read q index block there less =
    let rate = q.windows.settings.rate in
    let before : ℕ = kept_of (take index q.ready) in
    omega (
      arith,
      there.octets index block less,
      ap (steps_size rate q.run_t) (there.kept index less),
      steps_size-add rate q.run_t before (slice_index_or q.ready index block).steps,
    )

-- whatever block it is
no_block : WindowBlock
no_block = record {
  start = 0;
  steps = 0;
  kept = 0;
  metric = 0;
  bits = [];
  end_state = 0;
  dropped = 0;
}

pub step-few : (q : Queueing) (index : ℕ) → IsThere q → index < length q.ready
    → q.run_t + index * q.windows.settings.keep ≤ farthest_step
step-few q index there less = omega (arith, first-few q index no_block there less)

pub place-inside : (q : Queueing) (index : ℕ) → IsThere q → index < length q.ready
    → steps_size q.windows.settings.rate q.run_t (index * q.windows.settings.keep) ≤ length q.read
place-inside q index there less = omega (arith, inside-read q index no_block there less)
