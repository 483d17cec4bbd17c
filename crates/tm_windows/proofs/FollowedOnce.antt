-- Octets have one list of blocks in windows before which octets may be dropped.
use Rattle.std.proofs.Common.{◌≡◌, ◌⊎◌, inl, inr, ℕ, zero, suc, ◌+◌, ◌<◌, ◌≤◌, ◌∙◌, ◌++◌, refl, sym, ap, subst, arith, append_assoc, List, [], ◌∷◌, Option, Some, None, length, length-drop, drop}
use Rattle.std.specs.Option.{ForSome}
use Rattle.std.proofs.lemmas.List.{append-nil}
use Rattle.tm_conv.specs.Path.{steps_size}
use Rattle.tm_conv.proofs.Paths.{steps_size-zero}
use Rattle.tm_conv.proofs.Sizes.{steps_size-le, steps_size-add, steps_size-least}
use Rattle.tm_viterbi.specs.Settings.{Settings}
use Rattle.tm_viterbi.specs.WindowBlock.{WindowBlock}
use Rattle.tm_viterbi.specs.Blocks.{AreSteps}
use Rattle.tm_viterbi.specs.Due.{Place}
use Rattle.tm_viterbi.proofs.Closing.{more_octets, kept_is, Closes-append, after-append}
use Rattle.tm_viterbi.proofs.OneList.{OneBest, one_block, many}
use Rattle.tm_windows.specs.Windows.{Windows, Beginning, Spot, first_spot, moved, DropsBy, BeginsBy, Begins, BeginsLast, undropped, ClosesAt, spot_after, Followed, AreFirstIn, closing_size, IsOpenAt, AreDueIn, IsLast, AreBlocksIn, IsSeen}
use Rattle.tm_windows.proofs.Slips.{IsSlip-within}
use Rattle.tm_windows.proofs.Beginnings.{begins-one, unseen-none, begins_last-one, moved-place, begins-within, longer_beginning, longer_spot, begins-more}

-- ---- one block

pub same-dropped : (x y : WindowBlock) → undropped x ≡ undropped y → x.dropped ≡ y.dropped → x ≡ y
same-dropped x y same dropped = λ i. record (same i) { dropped = dropped i }

closes-one : OneBest → (s : Settings) (b : Beginning) (x y : WindowBlock) → ClosesAt s b x → ClosesAt s b y → x ≡ y
closes-one one s b x y h k =
    same-dropped x y (one_block one s.rate s.invert s.keep s.ahead b.place.starts b.place.t
    (s.keep + s.ahead + 1) b.place.octets
    (undropped x) (undropped y) h.0.is_block k.0.is_block) (h.1 ∙ sym k.1)

-- ---- one of two lists goes on where the other ends

abbrev pub GoesOn : Windows → Spot → Spot → List WindowBlock → List WindowBlock → Type 0
GoesOn w to at blocks others = (rest : List WindowBlock) × (others ≡ blocks ++ rest) × Followed w to rest at

pub one-longer : OneBest → (w : Windows) (from to at : Spot) (blocks others : List WindowBlock)
    → Followed w from blocks to
    → Followed w from others at → GoesOn w to at blocks others ⊎ GoesOn w at to others blocks
one-longer one w from to at [] others h k = inl (others, refl, subst (λ (v : Spot). Followed w v others at) h k)
one-longer one w from to at (x ∷ xs) [] h k = inr (x ∷ xs, refl, subst (λ (v : Spot). Followed w v (x ∷ xs) to) k h)
one-longer one w from to at (x ∷ xs) (y ∷ ys) h k =
    let s = w.settings in
    let same : k.0 ≡ h.0 = begins-one w from k.0 h.0 k.1 h.1 in
    let there = subst (λ (v : Beginning). ClosesAt s v y × Followed w (spot_after s v y) ys at) same (k.2, k.3) in
    let block : y ≡ x = closes-one one s h.0 y x there.0 h.2 in
    let others = subst (λ (v : WindowBlock). Followed w (spot_after s h.0 v) ys at) block there.1 in
    elim (one-longer one w (spot_after s h.0 x) to at xs ys h.3 others) as
    (λ _. GoesOn w to at (x ∷ xs) (y ∷ ys) ⊎ GoesOn w at to (y ∷ ys) (x ∷ xs)) [
      | inl on ↦ inl (on.0, (λ i. block i ∷ on.1 i), on.2)
      | inr on ↦ inr (on.0, (λ i. sym block i ∷ on.1 i), on.2)
    ]

-- ---- where windows end

-- no window after a spot is closed
abbrev pub Stops : Windows → Spot → Type 0
Stops w spot = (b : Beginning) (x : WindowBlock) → Begins w spot b → ClosesAt w.settings b x → ⊥

pub open-stops : (w : Windows) (spot : Spot) → IsOpenAt w spot → Stops w spot
open-stops w spot (inl few) = λ b x begins closes.
    (let within = begins-within w spot b begins in
    omega (arith, few, within.1, closes.0.room, ap (closing_size w.settings) within.0))
open-stops w spot (inr few) = λ b x begins closes.
    (let less : length b.place.octets < closing_size w.settings b.place.t =
    subst (λ (v : Beginning). length v.place.octets < closing_size w.settings v.place.t)
    (begins-one w spot few.0 b few.1 begins) few.2 in
    omega (arith, less, closes.0.room))

pub last-stops : (w : Windows) (to : Spot) (window : Beginning) (count : ℕ) → BeginsLast w to window
    → AreSteps w.settings.rate window.place.t window.place.octets count → count ≤ w.settings.keep + w.settings.ahead
    → Stops w to
last-stops w to window count (inl is) steps few = λ b x begins closes.
    (let s = w.settings in
    let room : closing_size s window.place.t ≤ length window.place.octets =
    subst (λ (v : Beginning). closing_size s v.place.t ≤ length v.place.octets)
    (begins-one w to b window begins is) closes.0.room in
    omega (
      arith,
      room,
      steps.most,
      steps_size-le s.rate window.place.t (count + 1) (s.keep + s.ahead + 1)
          (omega (arith, few)),
    ))
last-stops w to window count (inr is) steps few = λ b x begins closes. unseen-none w to b is.0 begins

stop-none : (w : Windows) (to at : Spot) (rest : List WindowBlock) → Stops w to → Followed w to rest at → (rest ≡ [])
    × (to ≡ at)
stop-none w to at [] stops h = (refl, h)
stop-none w to at (x ∷ xs) stops h = absurd (stops h.0 x h.1 h.2)

pub both-stop : OneBest → (w : Windows) (from to at : Spot) (blocks others : List WindowBlock)
    → Followed w from blocks to → Followed w from others at
    → Stops w to → Stops w at → (blocks ≡ others) × (to ≡ at)
both-stop one w from to at blocks others h k stops ends =
    elim (one-longer one w from to at blocks others h k) as (λ _. (blocks ≡ others) × (to ≡ at)) [
      | inl on ↦ (let none = stop-none w to at on.0 stops on.2 in
          (sym (on.1 ∙ ap (λ (v : List WindowBlock). blocks ++ v) none.0 ∙ append-nil blocks), none.1))
      | inr on ↦ (let none = stop-none w at to on.0 ends on.2 in
          (on.1 ∙ ap (λ (v : List WindowBlock). others ++ v) none.0 ∙ append-nil others, sym none.1))
    ]

-- ---- the first blocks

pub followed-first : OneBest → (w : Windows) (octets : List ℕ) (first blocks : List WindowBlock) (left : ℕ)
    → AreFirstIn w octets first → AreBlocksIn w octets blocks left → (rest : List WindowBlock)
    × (blocks ≡ first ++ rest)
followed-first one w octets first blocks left h all =
    elim (one-longer one w (first_spot w octets) h.0 all.to first all.done h.1 all.closed) as
    (λ _. (rest : List WindowBlock) × (blocks ≡ first ++ rest)) [
      | inl on ↦ (
        on.0 ++ all.last,
        all.are ∙ ap (λ (v : List WindowBlock). v ++ all.last) on.1
            ∙ append_assoc first on.0 all.last,
      )
      | inr on ↦ (let none = stop-none w all.to h.0 on.0 (last-stops w all.to all.window all.count all.begins
          all.steps all.few) on.2 in
          let same : first ≡ all.done = on.1 ∙ ap (λ (v : List WindowBlock). all.done ++ v) none.0
          ∙ append-nil all.done in
          (all.last, all.are ∙ ap (λ (v : List WindowBlock). v ++ all.last) (sym same)))
    ]

-- ---- octets that follow

followed-more : (w : Windows) (from to : Spot) (blocks : List WindowBlock) (more : List ℕ) → Followed w from blocks to
    → Followed w (longer_spot from more) blocks (longer_spot to more)
followed-more w from to [] more h = ap (λ (v : Spot). longer_spot v more) h
followed-more w from to (x ∷ xs) more h =
    let s = w.settings in
    let closes = h.2 in (
      longer_beginning h.0 more,
      begins-more w from h.0 more h.1,
      (Closes-append s.rate s.invert s.keep s.ahead h.0.place (undropped x) more closes.0, closes.1),
      subst (λ (v : Place). Followed w (record { place = v; decided = None }) xs (longer_spot to more))
          (sym (after-append s.rate s.invert s.keep s.ahead h.0.place (undropped x) more closes.0))
          (followed-more w (spot_after s h.0 x) to xs more h.3),
    )

first-longer : (w : Windows) (octets more : List ℕ) → longer_spot (first_spot w octets) more
    ≡ first_spot w (octets ++ more)
unfolding more_octets
first-longer w octets more = refl

pub closed-more : (w : Windows) (octets more : List ℕ) (first : List WindowBlock) (to : Spot)
    → Followed w (first_spot w octets) first to
    → Followed w (first_spot w (octets ++ more)) first (longer_spot to more)
closed-more w octets more first to h =
    subst (λ (v : Spot). Followed w v first (longer_spot to more)) (first-longer w octets more)
    (followed-more w (first_spot w octets) to first more h)

pub followed-prefix : (w : Windows) (octets more : List ℕ) (first : List WindowBlock)
    → AreFirstIn w octets first → AreFirstIn w (octets ++ more) first
followed-prefix w octets more first h = (longer_spot h.0 more, closed-more w octets more first h.0 h.1)

pub followed-longer : OneBest → (w : Windows) (octets more : List ℕ) (due later : List WindowBlock)
    → AreDueIn w octets due → AreDueIn w (octets ++ more) later → (rest : List WindowBlock)
    × (later ≡ due ++ rest)
followed-longer one w octets more due later h k =
    elim (one-longer one w (first_spot w (octets ++ more)) (longer_spot h.to more) k.to due later
    (closed-more w octets more due h.to h.closed) k.closed)
    as (λ _. (rest : List WindowBlock) × (later ≡ due ++ rest)) [
      | inl on ↦ (on.0, on.1)
      | inr on ↦ (let none = stop-none w k.to (longer_spot h.to more) on.0 (open-stops w k.to k.is_open) on.2 in
          let same : due ≡ later = on.1 ∙ ap (λ (v : List WindowBlock). later ++ v) none.0 ∙ append-nil later in
          ([], sym same ∙ sym (append-nil due)))
    ]

-- ---- all but the last

-- after closed windows a step is left, and whether octets are dropped is still open
followed-left : (w : Windows) (from to : Spot) (x : WindowBlock) (xs : List WindowBlock) → Followed w from (x ∷ xs) to
    → (to.decided ≡ None) × (steps_size w.settings.rate to.place.t 1 ≤ length to.place.octets)
followed-left w from to x [] h =
    let s = w.settings in
    let at = h.0.place in
    let kept : x.kept ≡ s.keep = h.2.0.is_block.kept ∙ kept_is s.keep s.ahead in
    let sum : x.kept + (s.ahead + 1) ≡ s.keep + s.ahead + 1 = omega (arith, kept) in
    let some : steps_size s.rate (at.t + x.kept) 1 ≤ length (drop (steps_size s.rate at.t x.kept) at.octets) = omega (
      arith,
      length-drop (steps_size s.rate at.t x.kept) at.octets,
      h.2.0.room,
      steps_size-add s.rate at.t x.kept (s.ahead + 1),
      ap (steps_size s.rate at.t) sum,
      steps_size-le s.rate (at.t + x.kept) 1 (s.ahead + 1) (omega arith),
    ) in
    subst (λ (v : Spot). (v.decided ≡ None) × (steps_size s.rate v.place.t 1 ≤ length v.place.octets)) h.3 (refl, some)
followed-left w from to x (y ∷ ys) h = followed-left w (spot_after w.settings h.0 x) to y ys h.3

-- a step is left after octets that are dropped
drops-some : (s : Settings) (seen : Option ℕ) (at : Place) (b : Beginning)
    → ForSome seen (λ steps. (1 ≤ steps) × (steps + 8 ≤ s.keep + s.ahead))
    → steps_size s.rate at.t 1 ≤ length at.octets → DropsBy s seen at b
    → steps_size s.rate b.place.t 1 ≤ length b.place.octets
drops-some s None at b few some h =
    subst (λ (v : Beginning). steps_size s.rate v.place.t 1 ≤ length v.place.octets) (sym h) some
drops-some s (Some steps) at b few some h =
    let there = moved-place b.dropped at in
    let enough : 1 ≤ steps = (few steps refl).0 in
    let here : steps_size s.rate (moved b.dropped at).t 1 ≤ length (moved b.dropped at).octets = omega (
      arith,
      h.0,
      IsSlip-within s.rate s.invert at.t steps at.octets b.dropped h.1,
      there.1,
      ap (λ (t : ℕ). steps_size s.rate t 1) there.0,
      steps_size-le s.rate at.t 1 steps enough,
    ) in
    subst (λ (v : Place). steps_size s.rate v.t 1 ≤ length v.octets) (sym h.2) here

window-some : (w : Windows) (to : Spot) (window : Beginning) → IsSeen w → to.decided ≡ None
    → steps_size w.settings.rate to.place.t 1 ≤ length to.place.octets → BeginsLast w to window
    → steps_size w.settings.rate window.place.t 1 ≤ length window.place.octets
window-some w to window seen undecided some (inl is) =
    drops-some w.settings w.seen to.place window seen some (subst
    (λ (o : Option ℕ). BeginsBy w o to.place window) undecided is)
window-some w to window seen undecided some (inr is) =
    subst (λ (v : Beginning). steps_size w.settings.rate v.place.t 1 ≤ length v.place.octets) (sym is.1) some

none-done : (w : Windows) (from to : Spot) (window : Beginning) (count : ℕ) (done : List WindowBlock) → IsSeen w
    → Followed w from done to
    → BeginsLast w to window → AreSteps w.settings.rate window.place.t window.place.octets count → count ≡ 0 → done ≡ []
none-done w from to window count [] seen closed begins steps none = refl
none-done w from to window count (x ∷ xs) seen closed begins steps none =
    let left = followed-left w from to x xs closed in
    absurd (omega (
      arith,
      window-some w to window seen left.0 left.1 begins,
      steps.most,
      ap (λ (n : ℕ). steps_size w.settings.rate window.place.t (n + 1)) none,
    ))

last-or_none : (s : Settings) (b : Beginning) (n : ℕ) (last : List WindowBlock) → IsLast s b n last
    → ((n ≡ 0) × (last ≡ [])) ⊎ ((x : WindowBlock) × (last ≡ x ∷ []))
last-or_none s b zero last h = inl (refl, h)
last-or_none s b (suc n) last h = inr (h.0, h.1)

pub followed-due : OneBest → (w : Windows) (octets : List ℕ) (due blocks : List WindowBlock) (left : ℕ) → IsSeen w
    → AreDueIn w octets due → AreBlocksIn w octets blocks left → ((blocks ≡ []) × (due ≡ []))
    ⊎ ((last : WindowBlock) × (blocks ≡ due ++ last ∷ []))
followed-due one w octets due blocks left seen h all =
    let from = first_spot w octets in
    let same = both-stop one w from h.to all.to due all.done h.closed all.closed (open-stops w h.to h.is_open)
    (last-stops w all.to all.window all.count all.begins all.steps all.few) in
    elim (last-or_none w.settings all.window all.count all.last all.is_last) as
    (λ _. ((blocks ≡ []) × (due ≡ [])) ⊎ ((last : WindowBlock) × (blocks ≡ due ++ last ∷ []))) [
      | inl none ↦ (let nothing : all.done ≡ [] = none-done w from all.to all.window all.count all.done seen
          all.closed all.begins all.steps none.0 in
          inl (all.are ∙ (λ i. nothing i ++ none.1 i), same.0 ∙ nothing))
      | inr one ↦ inr (one.0, all.are ∙ (λ i. sym same.0 i ++ one.1 i))
    ]

-- ---- the only list

last-same : OneBest → (s : Settings) (b : Beginning) (n : ℕ) (last others : List WindowBlock) → IsLast s b n last
    → IsLast s b n others → last ≡ others
last-same one s b zero last others h k = h ∙ sym k
last-same one s b (suc n) last others h k =
    let same : h.0 ≡ k.0 = same-dropped h.0 k.0 (one_block one s.rate s.invert s.keep s.ahead b.place.starts b.place.t
    (suc n) b.place.octets
    (undropped h.0) (undropped k.0) h.3 k.3) (h.2 ∙ sym k.2) in
    h.1 ∙ ap (λ (v : WindowBlock). v ∷ []) same ∙ sym k.1

-- of one last window
record IsRest (s : Settings) (b : Beginning) (n : ℕ) (last : List WindowBlock) (left : ℕ) : Type 0 where
  steps : AreSteps s.rate b.place.t b.place.octets n
  is_last : IsLast s b n last
  rest : length b.place.octets ≡ steps_size s.rate b.place.t n + left

rest-one : OneBest → (s : Settings) (b : Beginning) (n m : ℕ) (last others : List WindowBlock) (left right : ℕ)
    → IsRest s b n last left
    → IsRest s b m others right → (last ≡ others) × (left ≡ right)
rest-one one s b n m last others left right h k =
    let up : m ≤ n = many s.rate b.place.t n m (length b.place.octets) h.steps.most k.steps.whole in
    let down : n ≤ m = many s.rate b.place.t m n (length b.place.octets) k.steps.most h.steps.whole in
    let same : n ≡ m = omega (arith, up, down) in (
      last-same one s b m last others (subst (λ (v : ℕ). IsLast s b v last) same h.is_last) k.is_last,
      omega (arith, h.rest, k.rest, ap (steps_size s.rate b.place.t) same),
    )

pub followed-one : OneBest → (w : Windows) (octets : List ℕ) (blocks others : List WindowBlock) (left right : ℕ)
    → AreBlocksIn w octets blocks left → AreBlocksIn w octets others right → (blocks ≡ others) × (left ≡ right)
followed-one one w octets blocks others left right h k =
    let both = both-stop one w (first_spot w octets) h.to k.to h.done k.done h.closed k.closed
    (last-stops w h.to h.window h.count h.begins h.steps h.few)
    (last-stops w k.to k.window k.count k.begins k.steps k.few) in
    let window : k.window ≡ h.window = begins_last-one w h.to k.window h.window
    (subst (λ (v : Spot). BeginsLast w v k.window) (sym both.1) k.begins) h.begins in
    let there : IsRest w.settings h.window k.count k.last right =
    subst (λ (v : Beginning). IsRest w.settings v k.count k.last right) window
    (record { steps = k.steps; is_last = k.is_last; rest = k.rest }) in
    let last = rest-one one w.settings h.window h.count k.count h.last k.last left right
    (record { steps = h.steps; is_last = h.is_last; rest = h.rest }) there in
    (h.are ∙ (λ i. both.0 i ++ last.0 i) ∙ sym k.are, last.1)

-- ---- no octets

pub followed-none : (w : Windows) → AreBlocksIn w [] [] 0
followed-none w = record {
  done = [];
  to = first_spot w [];
  closed = refl;
  window = record { dropped = 0; place = (first_spot w []).place };
  begins = inl refl;
  count = 0;
  steps =
      record {
        whole = omega (arith, steps_size-zero w.settings.rate 0);
        most = omega (arith, steps_size-least w.settings.rate 0 (0 + 1));
      };
  few = omega arith;
  last = [];
  is_last = refl;
  are = refl;
  rest = omega (arith, steps_size-zero w.settings.rate 0);
}

pub followed-no_due : (w : Windows) → AreDueIn w [] []
followed-no_due w = record {
  to = first_spot w [];
  closed = refl;
  is_open = inl (omega (arith, steps_size-least w.settings.rate 0 (w.settings.keep + w.settings.ahead + 1)));
}
