-- What a certificate that passes shows of the soft octets of its kept steps.
use Rattle.std.specs.Prelude.{◌≡◌, ℕ, ◌+◌, ◌-◌, ◌<◌, ◌≤◌, List, [], ◌∷◌, length, take, drop}
use Rattle.tm_conv.specs.Path.{steps_size, path, register_after}
use Rattle.tm_conv.specs.Cost.{cost}
use Rattle.tm_conv.specs.Best.{IsCandidate}
use Rattle.tm_path_cert.specs.declared.verdicts.Starts.{Starts}
use Rattle.tm_path_cert.specs.declared.verdicts.Starts.TheVariants.{One}
use Rattle.tm_path_cert.specs.Claim.{is_start}
use Rattle.tm_viterbi.specs.Blocks.{AreSteps, window_steps, kept_steps}
use Rattle.tm_cert_file.specs.Window.{Window}
use Rattle.tm_cert_file.specs.Before.{Rules}

-- The window that begins at step t with these octets, where `remaining` steps remain. Its path
-- is a candidate that costs the metric, and no candidate costs less.
pub record IsShown (rules : Rules) (starts : Starts) (t remaining : ℕ) (octets : List ℕ)
    (w : Window) : Type 0 where
  pub steps : w.steps ≡ window_steps rules.keep rules.ahead remaining
  pub kept : w.kept ≡ kept_steps rules.keep rules.ahead remaining
  pub candidate : IsCandidate (is_start starts) rules.rate rules.invert t
      (take (steps_size rules.rate t w.steps) octets) w.start w.bits
  pub metric : w.metric ≡ cost (path rules.rate rules.invert t w.start w.bits)
      (take (steps_size rules.rate t w.steps) octets)
  pub least : (other : ℕ) (others : List ℕ)
      → IsCandidate (is_start starts) rules.rate rules.invert t
      (take (steps_size rules.rate t w.steps) octets) other others
      → w.metric ≤ cost (path rules.rate rules.invert t other others)
      (take (steps_size rules.rate t w.steps) octets)

-- all windows of the remaining steps: each next one begins after the kept steps, from the register
-- after them alone
abbrev pub AreShown : Rules → Starts → (t remaining : ℕ) → List ℕ → List Window → Type 0
AreShown rules starts t remaining octets [] = remaining ≡ 0
AreShown rules starts t remaining octets (w ∷ windows) =
    (0 < remaining) × IsShown rules starts t remaining octets w
    × AreShown rules (One (register_after w.start (take w.kept w.bits))) (t + w.kept)
    (remaining - w.kept) (drop (steps_size rules.rate t w.kept) octets) windows

-- the windows of all whole steps of the octets, from step 0; no octet is left over
pub record AreAllShown (rules : Rules) (octets : List ℕ) (windows : List Window) : Type 0 where
  pub count : ℕ
  pub steps : AreSteps rules.rate 0 octets count
  pub are : AreShown rules rules.starts 0 count octets windows
  pub none_left : length octets ≡ steps_size rules.rate 0 count
