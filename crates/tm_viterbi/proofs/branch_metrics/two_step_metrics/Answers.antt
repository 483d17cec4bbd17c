use Rattle.std.proofs.Common.{◌≡◌, ◌+◌, ◌<◌, ◌^◌, ℕ, List, [], ◌∷◌, ◌++◌, Bool, sym, subst, take, drop, length, get_or, map, arith, suc, Fits, w8}
use Rattle.std.specs.Prelude.{bit_xor}
use lib.Lanes.{zip2}
use Rattle.tm_conv.specs.declared.rates.Rate.TheVariants.{R12}
use Rattle.tm_viterbi.specs.Totals.{AreBranchMetrics}
use Rattle.tm_viterbi.specs.StepPairs.{two_step_masks}
use Rattle.tm_viterbi.proofs.BranchMetrics.{xored_metrics}
use Rattle.tm_viterbi.proofs.branch_metrics.two_step_metrics.Goals as goal

abbrev picked : List ℕ → List ℕ → List ℕ
picked xs places = map (λ k. get_or (xs ++ xs) k 0) places

abbrev xored : List ℕ → List ℕ → List ℕ
xored octets masks =
    zip2 bit_xor (picked (take 4 octets) (0 ∷ 0 ∷ 0 ∷ 0 ∷ 2 ∷ 2 ∷ 2 ∷ 2 ∷ 1 ∷ 1 ∷ 1 ∷ 1 ∷ 3 ∷ 3 ∷ 3 ∷ 3 ∷ [])) masks

abbrev summed : List ℕ → List ℕ
summed each = zip2 (λ a b. a + b) (picked each (0 ∷ 1 ∷ 2 ∷ 3 ∷ 4 ∷ 5 ∷ 6 ∷ 7 ∷ []))
    (picked each (8 ∷ 9 ∷ 10 ∷ 11 ∷ 12 ∷ 13 ∷ 14 ∷ 15 ∷ []))

abbrev firsts : List ℕ → List ℕ → List ℕ
firsts octets masks = picked (summed (xored octets masks)) (0 ∷ 1 ∷ 2 ∷ 3 ∷ [])

abbrev seconds : List ℕ → List ℕ → List ℕ
seconds octets masks = picked (summed (xored octets masks)) (4 ∷ 5 ∷ 6 ∷ 7 ∷ [])

four : (P : List ℕ → Type 0) (octets : List ℕ) → length octets ≡ 4 → ((k : ℕ) → Fits w8 (get_or octets k 0))
    → ((a b c d : ℕ) → a < 2 ^ 8 → b < 2 ^ 8 → c < 2 ^ 8 → d < 2 ^ 8 → P (a ∷ b ∷ c ∷ d ∷ [])) → P octets
four P [] l fits h = absurd (let e : 0 ≡ 4 = l in omega arith)
four P (a ∷ []) l fits h = absurd (let e : 1 ≡ 4 = l in omega arith)
four P (a ∷ b ∷ []) l fits h = absurd (let e : 2 ≡ 4 = l in omega arith)
four P (a ∷ b ∷ c ∷ []) l fits h = absurd (let e : 3 ≡ 4 = l in omega arith)
four P (a ∷ b ∷ c ∷ d ∷ []) l fits h = h a b c d (fits 0).fits (fits 1).fits (fits 2).fits (fits 3).fits
four P (a ∷ b ∷ c ∷ d ∷ e ∷ es) l fits h =
    absurd (let e : suc (suc (suc (suc (suc (length es))))) ≡ 4 = l in omega arith)

first_metrics : (invert : Bool) (masks octets : List ℕ) (t : ℕ) → masks ≡ two_step_masks invert → length octets ≡ 4
    → ((k : ℕ) → Fits w8 (get_or octets k 0))
    → AreBranchMetrics R12 invert t (take 2 octets) (firsts octets masks)
first_metrics invert masks octets t e l fits =
    four (λ v. AreBranchMetrics R12 invert t (take 2 v) (firsts v masks)) octets l fits
    (λ a b c d al bl cl dl. subst
    (λ (v : List ℕ). AreBranchMetrics R12 invert t (a ∷ b ∷ []) (firsts (a ∷ b ∷ c ∷ d ∷ []) v))
    (sym e) (xored_metrics invert t a b al bl))

second_metrics : (invert : Bool) (masks octets : List ℕ) (t : ℕ) → masks ≡ two_step_masks invert → length octets ≡ 4
    → ((k : ℕ) → Fits w8 (get_or octets k 0))
    → AreBranchMetrics R12 invert t (drop 2 octets) (seconds octets masks)
second_metrics invert masks octets t e l fits =
    four (λ v. AreBranchMetrics R12 invert t (drop 2 v) (seconds v masks)) octets l fits
    (λ a b c d al bl cl dl. subst
    (λ (v : List ℕ). AreBranchMetrics R12 invert t (c ∷ d ∷ []) (seconds (a ∷ b ∷ c ∷ d ∷ []) v))
    (sym e) (xored_metrics invert t c d cl dl))

pub returns-clause-first : goal.returns-clause-first
returns-clause-first c invert t e = first_metrics invert c.args.masks c.args.octets.now t e c.requires c.type_inv.octets

pub returns-clause-second : goal.returns-clause-second
returns-clause-second c invert t e =
    second_metrics invert c.args.masks c.args.octets.now t e c.requires c.type_inv.octets
