-- What is seen of a window: it is there, it is one, and once it fails octets after change nothing.
use Rattle.std.proofs.Common.{◌≡◌, ◌⊎◌, inl, inr, ℕ, List, ◌++◌, length, Some, refl, sym, ap, ◌∙◌, arith}
use Rattle.std.proofs.lemmas.Bool.{cases_lt}
use Rattle.tm_path_cert.specs.declared.verdicts.Verdict.{Verdict}
use Rattle.tm_path_cert.specs.declared.verdicts.Verdict.TheVariants.{Yes, No, Sum as SumOf}
use Rattle.tm_path_cert.specs.Claim.{Claim}
use Rattle.tm_path_cert.specs.Checking.{IsVerdict}
use Rattle.tm_cert_file.specs.declared.seen.Reason.{Reason}
use Rattle.tm_cert_file.specs.declared.seen.Reason.TheVariants.{Shape, Joint, Edge, Sum}
use Rattle.tm_cert_file.specs.declared.seen.Seen.{Seen}
use Rattle.tm_cert_file.specs.declared.seen.Seen.TheVariants.{More, Passed, Failed}
use Rattle.tm_cert_file.specs.Window.{window_in, window_size, steps_in}
use Rattle.tm_cert_file.specs.Before.{Rules, Before}
use Rattle.tm_cert_file.specs.Seen.{reason_in, IsJudged, IsSeen, seen_by}
use Rattle.tm_cert_file.proofs.Stages.{reason_in-cases, reason_in-stays}
use Rattle.tm_cert_file.proofs.Passing.{judged-more}

-- there is one answer on columns
abbrev pub HasVerdict : Type 0
HasVerdict = (claim : Claim) (columns : List (List ℕ)) (register : ℕ) (bits : List ℕ) (metric : ℕ)
    → (verdict : Verdict) × IsVerdict claim columns register bits metric verdict

abbrev pub OneVerdict : Type 0
OneVerdict =
    (claim : Claim) (columns : List (List ℕ)) (register : ℕ) (bits : List ℕ) (metric : ℕ) (verdict other : Verdict)
    → IsVerdict claim columns register bits metric verdict → IsVerdict claim columns register bits metric other
    → verdict ≡ other

-- ---- there is something

pub seen-by_verdict : (rules : Rules) (before : Before) (octets : List ℕ) (verdict : Verdict)
    → IsJudged rules before octets verdict → IsSeen rules before octets (seen_by verdict)
seen-by_verdict rules before octets Yes judged = judged
seen-by_verdict rules before octets (No column register) judged = judged
seen-by_verdict rules before octets (SumOf sum) judged = judged

pub seen-by_reason : (rules : Rules) (before : Before) (octets : List ℕ) (reason : Reason)
    → reason_in rules before octets ≡ Some reason → IsSeen rules before octets (Failed reason)
seen-by_reason rules before octets Shape e = e
seen-by_reason rules before octets Joint e = e
seen-by_reason rules before octets (Edge column register) e = absurd (grind (arith, reason_in-cases rules before octets))
seen-by_reason rules before octets (Sum sum) e = absurd (grind (arith, reason_in-cases rules before octets))

pub has-seen : HasVerdict → (rules : Rules) (before : Before) (octets : List ℕ) → (seen : Seen)
    × IsSeen rules before octets seen
has-seen has rules before octets =
    elim (reason_in-cases rules before octets) [
      | inl none ↦ elim (cases_lt (length octets) (window_size rules.rate before.t (steps_in octets))) [
        | inl part ↦ (More, (none, part))
        | inr whole ↦
            let w = window_in rules.rate before.t octets in
            let found = has (record {
              rate = rules.rate;
              invert = rules.invert;
              first = before.t;
              starts = before.starts;
              soft = w.octets;
            }) w.columns w.start w.bits w.metric in (
              seen_by found.0,
              seen-by_verdict rules before octets found.0
                  (record { right = none; whole = whole; is_verdict = found.1 }),
            )
      ]
      | inr (inl shape) ↦ (Failed Shape, shape)
      | inr (inr joint) ↦ (Failed Joint, joint)
    ]

-- ---- and no more than one

-- what is seen, by what is known of the octets
abbrev Found : Rules → Before → List ℕ → Seen → Type 0
Found rules before octets seen = ((seen ≡ More) × IsSeen rules before octets More)
    ⊎ (((verdict : Verdict) × (seen ≡ seen_by verdict) × IsJudged rules before octets verdict)
    ⊎ ((reason : Reason) × (seen ≡ Failed reason) × (reason_in rules before octets ≡ Some reason)))

found : (rules : Rules) (before : Before) (octets : List ℕ) (seen : Seen) → IsSeen rules before octets seen
    → Found rules before octets seen
found rules before octets More is = inl (refl, is)
found rules before octets Passed is = inr (inl (Yes, refl, is))
found rules before octets (Failed Shape) is = inr (inr (Shape, refl, is))
found rules before octets (Failed Joint) is = inr (inr (Joint, refl, is))
found rules before octets (Failed (Edge column register)) is = inr (inl (No column register, refl, is))
found rules before octets (Failed (Sum sum)) is = inr (inl (SumOf sum, refl, is))

pub one-seen : OneVerdict → (rules : Rules) (before : Before) (octets : List ℕ) (seen other : Seen)
    → IsSeen rules before octets seen → IsSeen rules before octets other → seen ≡ other
one-seen one rules before octets seen other is again =
    by (found rules before octets seen is) (found rules before octets other again)
  where
    by : Found rules before octets seen → Found rules before octets other → seen ≡ other
    by (inl part) (inl more) = cc
    by (inl part) (inr (inl judged)) = absurd (omega (arith, part.1.1, judged.2.whole))
    by (inl part) (inr (inr reason)) = absurd (let none = part.1.0 in cc)
    by (inr (inl judged)) (inl part) = absurd (omega (arith, part.1.1, judged.2.whole))
    by (inr (inl judged)) (inr (inl more)) =
        judged.1 ∙ ap seen_by (one _ _ _ _ _ judged.0 more.0 judged.2.is_verdict more.2.is_verdict) ∙ sym more.1
    by (inr (inl judged)) (inr (inr reason)) = absurd (let none = judged.2.right in cc)
    by (inr (inr reason)) (inl part) = absurd (let none = part.1.0 in cc)
    by (inr (inr reason)) (inr (inl judged)) = absurd (let none = judged.2.right in cc)
    by (inr (inr reason)) (inr (inr more)) = cc

-- ---- with octets after

pub failed-longer : (rules : Rules) (before : Before) (octets more : List ℕ) (reason : Reason)
    → IsSeen rules before octets (Failed reason) → IsSeen rules before (octets ++ more) (Failed reason)
failed-longer rules before octets more Shape is = reason_in-stays rules before octets more Shape is
failed-longer rules before octets more Joint is = reason_in-stays rules before octets more Joint is
failed-longer rules before octets more (Edge column register) is =
    judged-more rules before octets more (No column register) is
failed-longer rules before octets more (Sum sum) is = judged-more rules before octets more (SumOf sum) is
