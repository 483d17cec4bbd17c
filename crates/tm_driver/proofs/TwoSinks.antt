-- What one sink of two went through, where the other stays as it was.
use Rattle.std.proofs.Common.{inl, inr, Bool, true, false, refl, arith}
use Rattle.tm_base.specs.Outside.{Rose}
use Rattle.tm_driver.specs.Courses.{SinkCall, SinkState, SinkCourse, SinksCourse, unused}

-- one sink alone, where the other stays as it was
pub alone : (has_failed : Bool) (out : SinkCall) (notes : SinkState) (notes_last : Type 0) → SinkCourse has_failed out
    → SinksCourse has_failed out (record { before = notes; now = notes; is_last = notes_last })
alone true out notes notes_last went = inl (went, refl)
alone false out notes notes_last went = (went, refl)

-- which did not fail
never : (notes : SinkState) → Rose notes.faults notes.faults ⊥ → ⊥
never notes rose = elim rose [ inl less ↦ omega (arith, less) | inr last ↦ last ]

pub first-alone : (has_failed : Bool) (out : SinkCall) (notes : SinkState) → SinksCourse has_failed out (unused notes)
    → SinkCourse has_failed out
first-alone true out notes (inl p) = p.0
first-alone true out notes (inr p) = absurd (never notes p.0.0)
first-alone false out notes went = went.0

pub second-alone : (has_failed : Bool) (out : SinkState) (notes : SinkCall) → SinksCourse has_failed (unused out) notes
    → SinkCourse has_failed notes
second-alone true out notes (inl p) = absurd (never out p.0.0)
second-alone true out notes (inr p) = p.0
second-alone false out notes went = went.1
