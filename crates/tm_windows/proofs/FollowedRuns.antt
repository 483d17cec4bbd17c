-- Closed windows one after another, where octets may be dropped before each.
use Rattle.std.proofs.Common.{◌≡◌, inl, inr, ℕ, ◌+◌, ◌*◌, ◌<◌, ◌≤◌, ◌∙◌, ◌++◌, refl, sym, ap, subst, arith, unwrap_or, List, [], ◌∷◌, Option, Some, None, length, length-drop, drop, drop-drop}
use Rattle.std.specs.Option.{is_some}
use Rattle.std.proofs.lemmas.List.{append-nil}
use Rattle.tm_conv.specs.Path.{steps_size}
use Rattle.tm_conv.proofs.Paths.{steps_size-zero}
use Rattle.tm_conv.proofs.Sizes.{steps_size-le, steps_size-add}
use Rattle.tm_viterbi.specs.Settings.{Settings}
use Rattle.tm_viterbi.specs.WindowBlock.{WindowBlock}
use Rattle.tm_viterbi.specs.Due.{Place, Closes, Closed, after_block}
use Rattle.tm_viterbi.proofs.Closing.{more_octets, kept_is}
use Rattle.tm_windows.specs.Slip.{octets_seen}
use Rattle.tm_windows.specs.Windows.{Windows, Beginning, Spot, DropsBy, Begins, BeginsLast, dropped_at, ClosesAt, spot_after, Followed, slip_at, slips_of, dropped_of, kept_of, undecided, IsUndropped, AreUndropped}
use Rattle.tm_windows.specs.Queue.{IsAt}
use Rattle.tm_windows.proofs.Beginnings.{begins-one, begins-within, longer_spot, begins-more}
use Rattle.tm_windows.proofs.FollowedExists.{undropped-same}
use Rattle.tm_windows.proofs.Runs.{more_times}

abbrev pub place_of : Option ℕ → ℕ → List ℕ → Place
place_of starts t octets = record { starts = starts; t = t; octets = octets }

-- ---- one window more

pub followed-both : (w : Windows) (from middle to : Spot) (xs ys : List WindowBlock) → Followed w from xs middle
    → Followed w middle ys to
    → Followed w from (xs ++ ys) to
followed-both w from middle to [] ys h k = subst (λ (v : Spot). Followed w v ys to) (sym h) k
followed-both w from middle to (x ∷ xs) ys h k =
    (h.0, h.1, h.2, followed-both w (spot_after w.settings h.0 x) middle to xs ys h.3 k)

-- a window that closes is closed after dropped octets as well
pub closes-dropped : (s : Settings) (b : Beginning) (block : WindowBlock)
    → Closes s.rate s.invert s.keep s.ahead b.place block
    → ClosesAt s b (dropped_at b.dropped block)
closes-dropped s b block closes = (
  subst (λ (v : WindowBlock). Closes s.rate s.invert s.keep s.ahead b.place v)
      (sym (undropped-same block closes.is_block.dropped)) closes,
  refl,
)

pub kept-append : (xs ys : List WindowBlock) → kept_of (xs ++ ys) ≡ kept_of xs + kept_of ys
kept-append [] ys = omega arith
kept-append (x ∷ xs) ys = omega (arith, kept-append xs ys)

pub slips-append : (xs ys : List WindowBlock) → slips_of (xs ++ ys) ≡ slips_of xs + slips_of ys
slips-append [] ys = omega arith
slips-append (x ∷ xs) ys = omega (arith, slips-append xs ys)

pub dropped-append : (xs ys : List WindowBlock) → dropped_of (xs ++ ys) ≡ dropped_of xs + dropped_of ys
dropped-append [] ys = omega arith
dropped-append (x ∷ xs) ys = omega (arith, dropped-append xs ys)

-- ---- windows before which nothing is dropped

unfollowed-undropped : (w : Windows) → w.seen ≡ None → (t : ℕ) (octets : List ℕ) → IsUndropped w t octets
unfollowed-undropped w none t octets = λ steps is. absurd (let both = sym none ∙ is in cc)

pub unfollowed-all : (w : Windows) → w.seen ≡ None → (t count : ℕ) (octets : List ℕ) → AreUndropped w t octets count
unfollowed-all w none t count octets k some less =
    unfollowed-undropped w none (t + k * w.settings.keep) (drop
    (steps_size w.settings.rate t (k * w.settings.keep)) octets)

pub undropped-begins : (w : Windows) (at : Place) → IsUndropped w at.t at.octets
    → Begins w (record { place = at; decided = None }) (record { dropped = 0; place = at })
undropped-begins w at still = go w.seen refl
  where
    go : (seen : Option ℕ) → w.seen ≡ seen → DropsBy w.settings seen at (record { dropped = 0; place = at })
    go None is = refl
    go (Some steps) is = (let found = still steps is in (found.0, found.1, refl))

unfollowed-begins : (w : Windows) → w.seen ≡ None → (at : Place)
    → Begins w (record { place = at; decided = None }) (record { dropped = 0; place = at })
unfollowed-begins w none at = undropped-begins w at (unfollowed-undropped w none at.t at.octets)

-- a spot after closed windows, before any octet is dropped there
pub at-undecided : (w : Windows) (seen : Option ℕ) → w.seen ≡ seen → (spot : Spot) (at : Place)
    → spot ≡ record { place = at; decided = None } → IsAt w spot (undecided (is_some seen)) at
at-undecided w None is spot at there =
    subst (λ (v : Spot). Begins w v (record { dropped = 0; place = at })) (sym there) (unfollowed-begins w is at)
at-undecided w (Some steps) is spot at there = there

-- nothing is dropped before the second of them
pub next-undropped : (w : Windows) (t kept count : ℕ) (octets : List ℕ) → kept ≡ w.settings.keep → 1 < count
    → AreUndropped w t octets count
    → IsUndropped w (t + kept) (drop (steps_size w.settings.rate t kept) octets)
next-undropped w t kept count octets is some still =
    let s = w.settings in
    let one : 1 * s.keep ≡ kept = omega (arith, is) in
    subst (λ (n : ℕ). IsUndropped w (t + n) (drop (steps_size s.rate t n) octets)) one (still 1 (omega arith) some)

-- nor before those after it
pub later-undropped : (w : Windows) (t kept count n : ℕ) (octets : List ℕ) → kept ≡ w.settings.keep → n < count
    → AreUndropped w t octets count
    → AreUndropped w (t + kept) (drop (steps_size w.settings.rate t kept) octets) n
later-undropped w t kept count n octets is lt still k some less =
    let s = w.settings in
    let sum : (k + 1) * s.keep ≡ kept + k * s.keep = omega (arith, more_times k s.keep, is) in
    let step : t + (k + 1) * s.keep ≡ t + kept + k * s.keep = omega (arith, sum) in
    let first : ℕ = steps_size s.rate t kept in
    let others : ℕ = steps_size s.rate (t + kept) (k * s.keep) in
    let size : steps_size s.rate t ((k + 1) * s.keep) ≡ first + others
    = ap (steps_size s.rate t) sum ∙ steps_size-add s.rate t kept (k * s.keep) in
    let rest : drop (steps_size s.rate t ((k + 1) * s.keep)) octets ≡ drop others (drop first octets)
    = ap (λ (m : ℕ). drop m octets) size ∙ sym (drop-drop others first octets) in
    subst (λ (u : ℕ). IsUndropped w u (drop others (drop first octets))) step
    (subst (λ (o : List ℕ). IsUndropped w (t + (k + 1) * s.keep) o) rest
    (still (k + 1) (omega arith) (omega (arith, less, lt))))

closes-plain : (s : Settings) (at : Place) (x : WindowBlock) → Closes s.rate s.invert s.keep s.ahead at x
    → ClosesAt s (record { dropped = 0; place = at }) x
closes-plain s at x h = (
  subst (λ (v : WindowBlock). Closes s.rate s.invert s.keep s.ahead at v) (sym (undropped-same x h.is_block.dropped)) h,
  h.is_block.dropped,
)

pub run-followed : (w : Windows) (spot : Spot) (at to : Place) (x : WindowBlock) (xs : List WindowBlock)
    → Begins w spot (record { dropped = 0; place = at }) → Closed w.settings.rate w.settings.invert w.settings.keep
    w.settings.ahead at (x ∷ xs) to
    → AreUndropped w at.t at.octets (length (x ∷ xs)) → Followed w spot (x ∷ xs) (record { place = to; decided = None })
run-followed w spot at to x [] begins h still = (
  record { dropped = 0; place = at },
  begins,
  closes-plain w.settings at x h.0,
  ap (λ (p : Place). let next : Spot = record { place = p; decided = None } in next) h.1,
)
run-followed w spot at to x (y ∷ ys) begins h still =
    let s = w.settings in
    let next = after_block s.rate at x in
    let kept : x.kept ≡ s.keep = h.0.is_block.kept ∙ kept_is s.keep s.ahead in
    let count : ℕ = length (x ∷ y ∷ ys) in
    let n : ℕ = length (y ∷ ys) in
    let second = undropped-begins w next (next-undropped w at.t x.kept count at.octets kept (omega arith) still) in (
      record { dropped = 0; place = at },
      begins,
      closes-plain s at x h.0,
      run-followed w (record { place = next; decided = None }) next to y ys second h.1
          (later-undropped w at.t x.kept count n at.octets kept (omega arith) still),
    )

-- windows that are closed at once, after those before
pub record RunsTo (w : Windows) (from : Spot) (blocks : List WindowBlock) (at place : Place) : Type 0 where
  pub to : Spot
  pub closed : Followed w from blocks to
  pub begins : w.seen ≡ None → Begins w to (record { dropped = 0; place = place })
  pub after : at.t < place.t → to ≡ record { place = place; decided = None }

pub runs-to : (w : Windows) (from spot : Spot) (done more : List WindowBlock) (at to : Place)
    → Followed w from done spot
    → Begins w spot (record { dropped = 0; place = at }) → Closed w.settings.rate w.settings.invert w.settings.keep
    w.settings.ahead at more to
    → AreUndropped w at.t at.octets (length more) → RunsTo w from (done ++ more) at to
runs-to w from spot done [] at to h begins closed still = record {
  to = spot;
  closed = subst (λ (v : List WindowBlock). Followed w from v spot) (sym (append-nil done)) h;
  begins = λ none. subst (λ (p : Place). Begins w spot (record { dropped = 0; place = p })) closed begins;
  after = λ less. absurd (omega (arith, less, ap (λ (p : Place). p.t) closed));
}
runs-to w from spot done (x ∷ xs) at to h begins closed still = record {
  to = record { place = to; decided = None };
  closed =
      followed-both w from spot (record { place = to; decided = None }) done (x ∷ xs) h
      (run-followed w spot at to x xs begins closed still);
  begins = λ none. unfollowed-begins w none to;
  after = λ less. refl;
}

pub closed-kept : (s : Settings) (from to : Place) (blocks : List WindowBlock)
    → Closed s.rate s.invert s.keep s.ahead from blocks to
    → to.t ≡ from.t + kept_of blocks
closed-kept s from to [] h = omega (arith, ap (λ (p : Place). p.t) h)
closed-kept s from to (x ∷ xs) h = omega (arith, closed-kept s (after_block s.rate from x) to xs h.1)

pub closed-slips : (s : Settings) (from to : Place) (blocks : List WindowBlock)
    → Closed s.rate s.invert s.keep s.ahead from blocks to → slips_of blocks ≡ 0
closed-slips s from to [] h = refl
closed-slips s from to (x ∷ xs) h =
    omega (arith, ap slip_at h.0.is_block.dropped, closed-slips s (after_block s.rate from x) to xs h.1)

pub closed-dropped : (s : Settings) (from to : Place) (blocks : List WindowBlock)
    → Closed s.rate s.invert s.keep s.ahead from blocks to → dropped_of blocks ≡ 0
closed-dropped s from to [] h = refl
closed-dropped s from to (x ∷ xs) h =
    omega (arith, h.0.is_block.dropped, closed-dropped s (after_block s.rate from x) to xs h.1)

-- ---- octets that follow

pub at-more : (w : Windows) (spot : Spot) (dropped starts : Option ℕ) (t : ℕ) (held piece : List ℕ)
    → IsAt w spot dropped (place_of starts t held)
    → IsAt w (longer_spot spot piece) dropped (place_of starts t (held ++ piece))
unfolding more_octets
at-more w spot None starts t held piece h = ap (λ (v : Spot). longer_spot v piece) h
at-more w spot (Some k) starts t held piece h =
    begins-more w spot (record { dropped = k; place = place_of starts t held }) piece h

-- ---- the last window

pub last-begins : (w : Windows) (spot : Spot) (dropped : Option ℕ) (at : Place) → IsAt w spot dropped at
    → (dropped ≡ None → (steps : ℕ) × (w.seen ≡ Some steps)
    × (length at.octets < octets_seen w.settings.rate at.t steps))
    → BeginsLast w spot (record { dropped = unwrap_or dropped 0; place = at })
last-begins w spot (Some k) at h few = inl h
last-begins w spot None at h few =
    subst (λ (v : Spot). BeginsLast w v (record { dropped = 0; place = at })) (sym h) (inr ((refl, few refl), refl))

-- ---- how many windows are closed

-- closed windows one after another have the octets of their steps, and of one more, from where the first begins, or
-- more where octets are dropped between them
pub followed-long : (w : Windows) (from to : Spot) (x : WindowBlock) (xs : List WindowBlock)
    (h : Followed w from (x ∷ xs) to)
    → steps_size w.settings.rate h.0.place.t (length (x ∷ xs) * w.settings.keep + w.settings.ahead + 1)
    ≤ length h.0.place.octets
followed-long w from to x [] h =
    let s = w.settings in
    let one : 1 * s.keep + s.ahead + 1 ≡ s.keep + s.ahead + 1 = omega arith in
    omega (arith, h.2.0.room, ap (steps_size s.rate h.0.place.t) one)
followed-long w from to x (y ∷ ys) h =
    let s = w.settings in
    let at = h.0.place in
    let n : ℕ = length (y ∷ ys) in
    let size : ℕ = n * s.keep + s.ahead + 1 in
    let kept : x.kept ≡ s.keep = h.2.0.is_block.kept ∙ kept_is s.keep s.ahead in
    let sum : s.keep + size ≡ (n + 1) * s.keep + s.ahead + 1 = omega (arith, more_times n s.keep) in
    let count : length (x ∷ y ∷ ys) ≡ n + 1 = omega arith in
    let next = h.3 in
    let within = begins-within w (spot_after s h.0 x) next.0 next.1 in
    omega (
      arith,
      followed-long w (spot_after s h.0 x) to y ys next,
      ap (λ (t : ℕ). steps_size s.rate t size) within.0,
      within.1,
      length-drop (steps_size s.rate at.t x.kept) at.octets,
      ap (steps_size s.rate at.t) kept,
      ap (λ (k : ℕ). steps_size s.rate (at.t + k) size) kept,
      steps_size-add s.rate at.t s.keep size,
      ap (steps_size s.rate at.t) sum,
      ap (λ (m : ℕ). steps_size s.rate at.t (m * s.keep + s.ahead + 1)) count,
      h.2.0.room,
      steps_size-le s.rate at.t s.keep (s.keep + s.ahead + 1) (omega arith),
    )

-- a beginning after a spot stands there, with no more octets
pub at-within : (w : Windows) (spot : Spot) (dropped : Option ℕ) (at : Place) → IsAt w spot dropped at
    → (b : Beginning) → Begins w spot b
    → (b.place.t ≡ at.t) × (length b.place.octets ≤ length at.octets)
at-within w spot None at h b begins =
    begins-within w (record { place = at; decided = None }) b (subst (λ (v : Spot). Begins w v b) h begins)
at-within w spot (Some k) at h b begins =
    subst (λ (v : Beginning). (v.place.t ≡ at.t) × (length v.place.octets ≤ length at.octets))
    (begins-one w spot (record { dropped = k; place = at }) b h begins) (refl, omega arith)

-- where octets go on after a spot there are no more of them
pub at-few : (w : Windows) (spot : Spot) (dropped : Option ℕ) (at : Place) → IsAt w spot dropped at
    → length at.octets ≤ length spot.place.octets
at-few w spot None at h = omega (arith, ap (λ (v : Spot). length v.place.octets) h)
at-few w spot (Some k) at h = (begins-within w spot (record { dropped = k; place = at }) h).1

-- ---- how many steps and octets closed windows take

-- each of them keeps as many steps
pub followed-steps : (w : Windows) (from to : Spot) (blocks : List WindowBlock)
    → Followed w from blocks to → kept_of blocks ≡ length blocks * w.settings.keep
followed-steps w from to [] h = omega arith
followed-steps w from to (x ∷ xs) h =
    let s = w.settings in
    let kept : x.kept ≡ s.keep = h.2.0.is_block.kept ∙ kept_is s.keep s.ahead in
    omega (arith, kept, followed-steps w (spot_after s h.0 x) to xs h.3)

pub closed-steps : (s : Settings) (from to : Place) (blocks : List WindowBlock)
    → Closed s.rate s.invert s.keep s.ahead from blocks to → kept_of blocks ≡ length blocks * s.keep
closed-steps s from to [] h = omega arith
closed-steps s from to (x ∷ xs) h =
    let kept : x.kept ≡ s.keep = h.0.is_block.kept ∙ kept_is s.keep s.ahead in
    omega (arith, kept, closed-steps s (after_block s.rate from x) to xs h.1)

-- they take no fewer octets than those of the steps that they keep
pub record IsTaken (w : Windows) (from to : Spot) (kept : ℕ) : Type 0 where
  pub step : to.place.t ≡ from.place.t + kept
  pub octets : steps_size w.settings.rate from.place.t kept + length to.place.octets
      ≤ length from.place.octets

-- the same from where the first of them begins
pub begun-taken : (w : Windows) (from to : Spot) (x : WindowBlock) (xs : List WindowBlock)
    (h : Followed w from (x ∷ xs) to) → IsTaken w (spot_after w.settings h.0 x) to (kept_of xs)
    → steps_size w.settings.rate h.0.place.t (kept_of (x ∷ xs)) + length to.place.octets
    ≤ length h.0.place.octets
begun-taken w from to x xs h rest =
    let s = w.settings in
    let at = h.0.place in
    let kept : x.kept ≡ s.keep = h.2.0.is_block.kept ∙ kept_is s.keep s.ahead in
    omega (
      arith,
      rest.octets,
      h.2.0.room,
      steps_size-le s.rate at.t x.kept (s.keep + s.ahead + 1) (omega (arith, kept)),
      length-drop (steps_size s.rate at.t x.kept) at.octets,
      steps_size-add s.rate at.t x.kept (kept_of xs),
    )

pub followed-taken : (w : Windows) (from to : Spot) (blocks : List WindowBlock)
    → Followed w from blocks to → IsTaken w from to (kept_of blocks)
followed-taken w from to [] h = subst (λ (v : Spot). IsTaken w from v 0) h (record {
  step = omega arith;
  octets = omega (arith, steps_size-zero w.settings.rate from.place.t);
})
followed-taken w from to (x ∷ xs) h =
    let s = w.settings in
    let within = begins-within w from h.0 h.1 in
    let rest = followed-taken w (spot_after s h.0 x) to xs h.3 in
    record {
      step = omega (arith, rest.step, within.0);
      octets = omega (
        arith,
        begun-taken w from to x xs h rest,
        within.1,
        ap (λ (t : ℕ). steps_size s.rate t (kept_of (x ∷ xs))) within.0,
      );
    }

-- where nothing is dropped, just these
pub closed-octets : (s : Settings) (from to : Place) (blocks : List WindowBlock)
    → Closed s.rate s.invert s.keep s.ahead from blocks to
    → length from.octets ≡ steps_size s.rate from.t (kept_of blocks) + length to.octets
closed-octets s from to [] h =
    omega (arith, ap (λ (p : Place). length p.octets) h, steps_size-zero s.rate from.t)
closed-octets s from to (x ∷ xs) h =
    let kept : x.kept ≡ s.keep = h.0.is_block.kept ∙ kept_is s.keep s.ahead in
    omega (
      arith,
      closed-octets s (after_block s.rate from x) to xs h.1,
      h.0.room,
      steps_size-le s.rate from.t x.kept (s.keep + s.ahead + 1) (omega (arith, kept)),
      length-drop (steps_size s.rate from.t x.kept) from.octets,
      steps_size-add s.rate from.t x.kept (kept_of xs),
    )
