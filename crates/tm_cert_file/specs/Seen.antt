-- What is seen of a window by those of its octets that are there.
use Rattle.std.specs.Prelude.{◌≡◌, ℕ, ◌+◌, ◌<◌, ◌≤◌, ◌==◌, ◌&&◌, ◌||◌, Bool, true, false, not, if◌then◌else◌, List, [], ◌∷◌, Option, Some, None, length, nat_eq, nat_lt, nat_le}
use Rattle.std.specs.List.{list_all, starts_with}
use Rattle.tm_conv.specs.Path.{registers}
use Rattle.tm_path_cert.specs.declared.verdicts.Verdict.{Verdict}
use Rattle.tm_path_cert.specs.declared.verdicts.Verdict.TheVariants.{Yes, No, Sum as SumOf}
use Rattle.tm_path_cert.specs.Claim.{Claim, is_start}
use Rattle.tm_path_cert.specs.Checking.{IsVerdict}
use Rattle.tm_cert_file.specs.declared.seen.Next.{Next}
use Rattle.tm_cert_file.specs.declared.seen.Next.TheVariants.{May, Must, Never}
use Rattle.tm_cert_file.specs.declared.seen.Reason.{Reason}
use Rattle.tm_cert_file.specs.declared.seen.Reason.TheVariants.{Shape, Joint, Edge, Sum}
use Rattle.tm_cert_file.specs.declared.seen.Seen.{Seen}
use Rattle.tm_cert_file.specs.declared.seen.Seen.TheVariants.{More, Passed, Failed}
use Rattle.tm_cert_file.specs.Window.{Window, window_in, window_size, bits_end, soft_end, steps_in, kept_in, start_in, bits_in, soft_in, header_size}
use Rattle.tm_cert_file.specs.Before.{Rules, Before}

abbrev pub is_due : Next → Bool
is_due May = false
is_due Must = true
is_due Never = false

abbrev pub is_over : Next → Bool
is_over May = false
is_over Must = false
is_over Never = true

-- There are steps, at most those of a window, and either all are kept, or those that are kept of a
-- whole window. The register is one. A window after steps that are not kept has more than these.
abbrev pub has_shape : Rules → Next → (steps kept start : ℕ) → Bool
has_shape rules next steps kept start =
    nat_lt 0 steps && nat_le steps (rules.keep + rules.ahead)
    && ((kept == steps) || ((kept == rules.keep) && (steps == rules.keep + rules.ahead)))
    && nat_lt start registers && (not (is_due next) || nat_lt rules.ahead steps)

abbrev pub are_bits : List ℕ → Bool
are_bits bits = list_all (λ bit. nat_lt bit 2) bits

-- the path starts where it may, and the soft octets begin with those after the kept ones before
abbrev pub is_joined : Before → (start : ℕ) → List ℕ → Bool
is_joined before start octets = is_start before.starts start
    && starts_with nat_eq octets before.octets

-- the first reason against the window but for its columns, as far as it shows in these octets
unfoldable pub reason_in : Rules → Before → List ℕ → Option Reason
reason_in rules before [] = None
reason_in rules before (octet ∷ octets) =
    let all = octet ∷ octets in
    let steps = steps_in all in
    if is_over before.next then Some Shape
    else if nat_lt (length all) header_size then None
    else if not (has_shape rules before.next steps (kept_in all) (start_in all)) then Some Shape
    else if nat_lt (length all) (bits_end steps) then None
    else if not (are_bits (bits_in all)) then Some Shape
    else if nat_lt (length all) (soft_end rules.rate before.t steps) then None
    else if not (is_joined before (start_in all) (soft_in rules.rate before.t all)) then Some Joint
    else None

-- what a path certificate speaks of
abbrev pub claim_of : Rules → Before → List ℕ → Claim
claim_of rules before octets = record {
  rate = rules.rate;
  invert = rules.invert;
  first = before.t;
  starts = before.starts;
  soft = octets;
}

-- what is to be answered of a window's path and metric by its columns
abbrev pub IsVerdictOn : Rules → Before → Window → Verdict → Type 0
IsVerdictOn rules before w = IsVerdict (claim_of rules before w.octets) w.columns w.start w.bits
    w.metric

-- there is no reason against the window but for its columns, all its octets are there, and this is
-- to be answered of it
pub record IsJudged (rules : Rules) (before : Before) (octets : List ℕ)
    (verdict : Verdict) : Type 0 where
  pub right : reason_in rules before octets ≡ None
  pub whole : window_size rules.rate before.t (steps_in octets) ≤ length octets
  pub is_verdict : IsVerdictOn rules before (window_in rules.rate before.t octets) verdict

-- what is seen of a window of which this is answered
abbrev pub seen_by : Verdict → Seen
seen_by Yes = Passed
seen_by (No column register) = Failed (Edge column register)
seen_by (SumOf sum) = Failed (Sum sum)

-- what is seen of a window; no two things are seen at once
abbrev pub IsSeen : Rules → Before → List ℕ → Seen → Type 0
IsSeen rules before octets More = (reason_in rules before octets ≡ None)
    × (length octets < window_size rules.rate before.t (steps_in octets))
IsSeen rules before octets Passed = IsJudged rules before octets Yes
IsSeen rules before octets (Failed Shape) = reason_in rules before octets ≡ Some Shape
IsSeen rules before octets (Failed Joint) = reason_in rules before octets ≡ Some Joint
IsSeen rules before octets (Failed (Edge column register)) =
    IsJudged rules before octets (No column register)
IsSeen rules before octets (Failed (Sum sum)) = IsJudged rules before octets (SumOf sum)
