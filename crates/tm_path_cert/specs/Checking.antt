-- What a check keeps, for which columns, given so far, it stands, and what it answers.
use Rattle.std.specs.Prelude.{◌≡◌, ◌≢◌, ◌⊎◌, ℕ, ◌<◌, List, length, Option, Some, None}
use Rattle.tm_path_cert.specs.declared.verdicts.Verdict.{Verdict}
use Rattle.tm_path_cert.specs.declared.verdicts.Verdict.TheVariants.{Yes, No, Sum}
use Rattle.tm_path_cert.specs.Claim.{Claim, path_cost}
use Rattle.tm_path_cert.specs.Tests.{AllHold, IsFirstWrong, Pass, IsFirstLess, last_of}

-- what contracts see of a check: how many columns it was given, the last of them, and the first
-- place that was wrong
pub record Checking : Type 0 where
  pub claim : Claim
  pub count : ℕ
  pub last : List ℕ
  pub wrong : Option (ℕ × ℕ)

-- what a check has found in columns
abbrev pub IsFound : Claim → List (List ℕ) → Option (ℕ × ℕ) → Type 0
IsFound claim columns None = AllHold claim columns
IsFound claim columns (Some place) = IsFirstWrong claim columns place.0 place.1

-- a check that was given these columns, and no others
pub record CheckStandsFor (check : Checking) (columns : List (List ℕ)) : Type 0 where
  pub count : check.count ≡ length columns
  pub last : 0 < check.count → check.last ≡ last_of columns
  pub found : IsFound check.claim columns check.wrong

-- what is to be answered of a path and its metric; no two answers are right at once
abbrev pub IsVerdict : Claim → List (List ℕ) → ℕ → List ℕ → ℕ → Verdict → Type 0
IsVerdict claim columns register bits metric Yes = Pass claim columns metric
    × (path_cost claim register bits ≡ metric)
IsVerdict claim columns register bits metric (No t state) = IsFirstWrong claim columns t state
    ⊎ IsFirstLess claim columns metric t state
IsVerdict claim columns register bits metric (Sum sum) = Pass claim columns metric
    × (path_cost claim register bits ≡ sum) × (sum ≢ metric)
