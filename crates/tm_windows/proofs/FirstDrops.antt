-- Looks for slips before windows one after another.
use Rattle.std.proofs.Common.{◌≡◌, ℕ, ◌+◌, ◌*◌, ◌<◌, ◌≤◌, ◌∙◌, inl, inr, refl, sym, subst, arith, List, Some, drop, length, mul-le-mul_right}
use Rattle.std.proofs.lemmas.Bool.{cases_lt}
use Rattle.tm_conv.specs.Path.{steps_size}
use Rattle.tm_conv.proofs.Sizes.{steps_size-le}
use Rattle.tm_viterbi.specs.declared.window_decoder.WindowShape.{WindowShape}
use Rattle.tm_windows.specs.Looks.{HoldLooks, IsFirstDrop, IsUndroppedAt}
use Rattle.tm_windows.specs.Slip.{IsSlip, octets_seen}
use Rattle.tm_windows.specs.Windows.{AreUndropped, IsUndropped}
use Rattle.tm_windows.specs.contracts.queue.WindowQueue.{the_view}
use Rattle.tm_windows.specs.declared.looks.Looks.{Looks}
use Rattle.tm_windows.specs.declared.queue.WindowQueue.TheInside.{Inside}
use Rattle.tm_windows.specs.Queue.{Queueing, windows_of}
use Rattle.tm_windows.proofs.FollowedExists.{seen-before}
use Rattle.tm_windows.proofs.Runs.{HasRoom, room_of}

-- ---- room

-- the octets have the steps of fewer windows too
pub fewer_looks : (l : Looks) (n count : ℕ) → n ≤ count → HoldLooks l count → HoldLooks l n
fewer_looks l n count le holds =
    let wide : n * l.shape.keep ≤ count * l.shape.keep = mul-le-mul_right l.shape.keep le in
    record {
      room = omega (
        arith,
        holds.room,
        steps_size-le l.shape.rate l.t (n * l.shape.keep + l.shape.ahead + 1)
            (count * l.shape.keep + l.shape.ahead + 1) (omega (arith, wide)),
      );
      steps = holds.steps;
    }

pub fewer_steps : (t keep n count bound : ℕ) → n ≤ count → t + count * keep < bound → t + n * keep < bound
fewer_steps t keep n count bound le few =
    let wide : n * keep ≤ count * keep = mul-le-mul_right keep le in omega (arith, wide, few)

-- a window has its room among the octets
pub look_room : (l : Looks) (number size : ℕ) → HoldLooks l (number + 1)
    → size ≡ steps_size l.shape.rate l.t (number * l.shape.keep)
    → HasRoom l.shape (l.t + number * l.shape.keep) size l.octets.now
look_room l number size holds is =
    room_of l.shape l.t (number + 1) number (l.t + number * l.shape.keep) size l.octets.now refl is (omega arith)
    holds.room

-- and with it a slip is looked for
pub look_size : (l : Looks) (number size : ℕ) → HoldLooks l (number + 1)
    → size ≡ steps_size l.shape.rate l.t (number * l.shape.keep)
    → octets_seen l.shape.rate (l.t + number * l.shape.keep) l.steps ≤ length (drop size l.octets.now)
look_size l number size holds is =
    omega (
      arith,
      (look_room l number size holds is).room,
      seen-before l.shape.rate (l.t + number * l.shape.keep) l.steps (l.shape.keep + l.shape.ahead) holds.steps.1,
    )

-- nothing is dropped before the windows of two parts
pub none_in_both : (l : Looks) (first middle last : ℕ) → ((k : ℕ) → first ≤ k → k < middle → IsUndroppedAt l k)
    → ((k : ℕ) → middle ≤ k → k < last → IsUndroppedAt l k)
    → (k : ℕ) → first ≤ k → k < last → IsUndroppedAt l k
none_in_both l first middle last none other k from less = elim (cases_lt k middle) as (λ _. IsUndroppedAt l k) [
  | inl below ↦ none k from below
  | inr above ↦ other k above less
]

-- ---- the looks of a queue

-- the octets that it holds
abbrev pub held_of : Inside → List ℕ
held_of v = drop v.passed v.held.octets

-- they are over its octets, before the windows from the next one on
pub record AreLooksOf (v : Inside) (l : Looks) : Type 0 where
  pub shape : l.shape ≡ v.settings.shape
  pub steps : v.seen ≡ Some l.steps
  pub t : l.t ≡ v.t
  pub octets : l.octets.now ≡ held_of v

-- nothing is dropped before window `number`, as a look over `steps` steps says: window 0 has this shape, step and octets
abbrev Still : ℕ → ℕ → WindowShape × ℕ × List ℕ → Type 0
Still steps number x = IsSlip x.0.rate x.0.invert (x.1 + number * x.0.keep) steps
    (drop (steps_size x.0.rate x.1 (number * x.0.keep)) x.2) 0

abbrev beginning : WindowShape → ℕ → List ℕ → WindowShape × ℕ × List ℕ
beginning shape t octets = (shape, t, octets)

of_queue : (v : Inside) (l : Looks) → AreLooksOf v l
    → beginning l.shape l.t l.octets.now ≡ beginning v.settings.shape v.t (held_of v)
of_queue v l are = λ i. beginning (are.shape i) (are.t i) (are.octets i)

pub undropped-there : (v : Inside) (l : Looks) (number : ℕ) → AreLooksOf v l → HoldLooks l (number + 1)
    → IsUndroppedAt l number → IsUndropped (windows_of v.settings v.seen) (v.t + number * v.settings.shape.keep)
    (drop (steps_size v.settings.shape.rate v.t (number * v.settings.shape.keep)) (held_of v))
undropped-there v l number are holds still = λ steps is. subst (λ (n : ℕ).
    (octets_seen v.settings.shape.rate (v.t + number * v.settings.shape.keep) n
    ≤ length (drop (steps_size v.settings.shape.rate v.t (number * v.settings.shape.keep)) (held_of v)))
    × Still n number (beginning v.settings.shape v.t (held_of v)))
    (let same : l.steps ≡ steps = (let both = sym are.steps ∙ is in cc) in same) (
      subst (λ (x : WindowShape × ℕ × List ℕ). octets_seen x.0.rate (x.1 + number * x.0.keep) l.steps
          ≤ length (drop (steps_size x.0.rate x.1 (number * x.0.keep)) x.2)) (of_queue v l are)
          (look_size l number (steps_size l.shape.rate l.t (number * l.shape.keep)) holds refl),
      subst (Still l.steps number) (of_queue v l are) still,
    )

pub undropped-look : (v : Inside) (l : Looks) (number : ℕ) → AreLooksOf v l
    → IsUndropped (windows_of v.settings v.seen) (v.t + number * v.settings.shape.keep)
    (drop (steps_size v.settings.shape.rate v.t (number * v.settings.shape.keep)) (held_of v))
    → IsUndroppedAt l number
undropped-look v l number are undropped =
    subst (Still l.steps number) (sym (of_queue v l are)) (undropped l.steps are.steps).1

-- where the first drop is before window `number`, nothing is dropped before the others up to it
pub found-run : (v : Inside) (q : Queueing) (l : Looks) (most number : ℕ) → the_view v ≡ q → AreLooksOf v l
    → HoldLooks l most → IsFirstDrop l 1 most number → AreUndropped q.windows q.t q.held number
found-run v q l most number view_is are holds is =
    let run : AreUndropped (the_view v).windows (the_view v).t (the_view v).held number = λ k some less.
    undropped-there v l k are (fewer_looks l (k + 1) most (omega (arith, less, is.within.1)) holds)
    (is.none k (omega (arith, some)) less) in
    subst (λ (u : Queueing). AreUndropped u.windows u.t u.held number) view_is run

-- and no more
pub found-longest : (v : Inside) (q : Queueing) (l : Looks) (most number : ℕ) → the_view v ≡ q → AreLooksOf v l
    → IsFirstDrop l 1 most number → number < most → AreUndropped q.windows q.t q.held (number + 1) → ⊥
found-longest v q l most number view_is are is less undropped =
    let run : AreUndropped (the_view v).windows (the_view v).t (the_view v).held (number + 1) =
    subst (λ (u : Queueing). AreUndropped u.windows u.t u.held (number + 1)) (sym view_is) undropped in
    is.dropped less (undropped-look v l number are (run number (omega (arith, is.within.0)) (omega arith)))
