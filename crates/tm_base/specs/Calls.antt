-- What a call of a stream promises of the taker that it hands things over to, and of a refusal,
-- whatever it is given. A stream stops once its taker fails.
use Rattle.std.specs.Prelude.{◌≡◌, ◌≢◌, ◌↔◌, ℕ, ◌≤◌, Bool, List, Result, Err, IsErrOf, IsTrue}
use Rattle.tm_base.specs.Outside.{Rose}
use Rattle.tm_base.specs.Takers.{HandedOver, HandedPart}

-- a taker over a call: that it was handed these items, or some of them until it failed at one; that
-- it is as it was; its counts of faults before and now, and that the count can't rise any more
pub record TakerCall (I : Type 0) : Type 1 where
  pub took : List I → Type 0
  pub broke : List I → Type 0
  pub unchanged : Type 0
  pub before : ℕ
  pub now : ℕ
  pub is_last : Type 0

-- by what a taker says of itself
abbrev pub taker_call : {T I : Type 0} → (took broke : T → I → T → Type 0) → (faults : T → ℕ)
    → (is_last : T → Type 0) → (before now : T) → TakerCall I
taker_call took broke faults is_last before now = record {
  took = λ items. HandedOver took before items now;
  broke = λ items. HandedPart took broke before items now;
  unchanged = now ≡ before;
  before = faults before;
  now = faults now;
  is_last = is_last now;
}

-- What a call of a stream answers, whatever it is given: it is refused just where the stream had
-- stopped, and then nothing changes; it answers that the taker failed only where its count of
-- faults rose, and leaves the count as it was where it answers anything else.
pub record CallAnswers {R E S : Type 0} (refusal failure : E) (had_stopped : Bool) (before now : S)
    (taker_same : Type 0) (faults faults_now : ℕ) (is_last : Type 0)
    (result : Result R E) : Type 0 where
  pub stopped : IsErrOf result refusal ↔ IsTrue had_stopped
  pub unchanged : IsErrOf result refusal → (now ≡ before) × taker_same
  pub later : faults ≤ faults_now
  pub rose : IsErrOf result failure → Rose faults faults_now is_last
  pub same : result ≢ Err failure → faults_now ≡ faults
