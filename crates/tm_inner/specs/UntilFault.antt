-- What handing on does to a taker that may fail.
use Rattle.std.specs.Prelude.{◌≡◌, ℕ, ◌≤◌, Bool, true, false}
use Rattle.tm_base.specs.Outside.{Rose}

-- it took what was handed on, or failed at it; once it has failed it is handed nothing
abbrev pub Passes : {T : Type 0} → (took broke : T → T → Type 0) → (faults : T → ℕ)
    → (is_last : T → Type 0) → (had_failed : Bool) → (before : T) → (has_failed : Bool) → (now : T)
    → Type 0
Passes took broke faults is_last true before has_failed now =
    (has_failed ≡ true) × (now ≡ before)
Passes took broke faults is_last false before false now =
    took before now × (faults now ≡ faults before)
Passes took broke faults is_last false before true now =
    broke before now × (faults before ≤ faults now) × Rose (faults before) (faults now) (is_last now)
