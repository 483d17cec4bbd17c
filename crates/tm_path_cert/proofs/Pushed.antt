-- A check given one more column.
use Rattle.std.proofs.Common.{◌≡◌, ℕ, zero, suc, ◌+◌, ◌-◌, ◌<◌, inl, inr, List, [], ◌∷◌, ◌++◌, length, take, drop, refl, sym, ap, subst, ◌∙◌, arith, length-append, Option, Some, None}
use Rattle.std.proofs.lemmas.Bool.{cases_lt}
use Rattle.std.proofs.lemmas.List.{get_or_append_left}
use Rattle.std.proofs.Math.Seq.{get_or-append_seam}
use Rattle.tm_conv.specs.Path.{step_size, steps_size, step_symbols}
use Rattle.tm_conv.specs.Cost.{cost}
use Rattle.tm_path_cert.specs.Claim.{Claim, step_octets}
use Rattle.tm_path_cert.specs.Tests.{HoldsAt, IsLowEnough, Holds, IsFirstFailing, column_at, last_of, first_place}
use Rattle.tm_path_cert.specs.Checking.{Checking, CheckStandsFor, IsFound}

old_at : (columns : List (List ℕ)) (column : List ℕ) (t : ℕ) → t < length columns
    → column_at (columns ++ column ∷ []) t ≡ column_at columns t
old_at columns column t lt = get_or_append_left columns (column ∷ []) [] t lt

new_at : (columns : List (List ℕ)) (column : List ℕ) → column_at (columns ++ column ∷ []) (length columns) ≡ column
new_at columns column = get_or-append_seam columns column [] []

long_push : (columns : List (List ℕ)) (column : List ℕ) → length (columns ++ column ∷ []) ≡ length columns + 1
long_push columns column = length-append columns (column ∷ [])

same_holds : (claim : Claim) (t r : ℕ) (before before' column column' : List ℕ) → before ≡ before' → column ≡ column'
    → HoldsAt claim t before column r → HoldsAt claim t before' column' r
same_holds claim t r before before' column column' eb ec h =
    let P : List ℕ → Type 0 = λ v. HoldsAt claim t v column r in
    let Q : List ℕ → Type 0 = λ v. HoldsAt claim t before' v r in
    subst Q ec (subst P eb h)

older : (claim : Claim) (columns : List (List ℕ)) (column : List ℕ) (t r : ℕ) → t < length columns
    → Holds claim columns t r → Holds claim (columns ++ column ∷ []) t r
older claim columns column t r lt h =
    same_holds claim t r _ _ _ _ (sym (old_at columns column (t - 1) (omega (arith, lt))))
    (sym (old_at columns column t lt)) h

younger : (claim : Claim) (columns : List (List ℕ)) (column : List ℕ) (t r : ℕ) → t < length columns
    → Holds claim (columns ++ column ∷ []) t r → Holds claim columns t r
younger claim columns column t r lt h =
    same_holds claim t r _ _ _ _ (old_at columns column (t - 1) (omega (arith, lt))) (old_at columns column t lt) h

-- the test of the next column is that of the last of the longer list
next_in : (claim : Claim) (columns : List (List ℕ)) (column last : List ℕ) (t r : ℕ) → t ≡ length columns
    → (0 < t → last ≡ last_of columns)
    → HoldsAt claim t last column r → Holds claim (columns ++ column ∷ []) t r
next_in claim columns column last zero r e is h =
    same_holds claim 0 r last _ column _ (refl)
    (sym (new_at columns column) ∙ ap (column_at (columns ++ column ∷ [])) (sym e)) h
next_in claim columns column last (suc k) r e is h =
    let place : length columns - 1 ≡ suc k - 1 = omega (arith, e) in
    same_holds claim (suc k) r last _ column _
    (is (omega arith) ∙ sym (old_at columns column (length columns - 1) (omega (arith, e)))
    ∙ ap (column_at (columns ++ column ∷ [])) place)
    (sym (new_at columns column) ∙ ap (column_at (columns ++ column ∷ [])) (sym e)) h

next_out : (claim : Claim) (columns : List (List ℕ)) (column last : List ℕ) (t r : ℕ) → t ≡ length columns
    → (0 < t → last ≡ last_of columns)
    → Holds claim (columns ++ column ∷ []) t r → HoldsAt claim t last column r
next_out claim columns column last zero r e is h =
    same_holds claim 0 r last _ _ column (refl) (ap (column_at (columns ++ column ∷ [])) e ∙ new_at columns column) h
next_out claim columns column last (suc k) r e is h =
    let place : length columns - 1 ≡ suc k - 1 = omega (arith, e) in
    same_holds claim (suc k) r _ last _ column
    (sym (is (omega arith) ∙ sym (old_at columns column (length columns - 1) (omega (arith, e)))
    ∙ ap (column_at (columns ++ column ∷ [])) place))
    (ap (column_at (columns ++ column ∷ [])) e ∙ new_at columns column) h

found_push : (claim : Claim) (columns : List (List ℕ)) (column last : List ℕ) (t : ℕ) (wrong : Option (ℕ × ℕ))
    (found : Option ℕ) → t ≡ length columns → (0 < t → last ≡ last_of columns)
    → IsFirstFailing (λ r. HoldsAt claim t last column r) found → IsFound claim columns wrong
    → IsFound claim (columns ++ column ∷ []) (first_place wrong t found)
found_push claim columns column last t (Some place) found e is test h = record {
  column = omega (arith, h.column, long_push columns column);
  below = h.below;
  wrong = λ holds. h.wrong (younger claim columns column place.0 place.1 h.column holds);
  columns_before =
      λ u other lt small. older claim columns column u other (omega (arith, lt, h.column))
      (h.columns_before u other lt small);
  registers_before = λ other lt. older claim columns column place.0 other h.column (h.registers_before other lt);
}
found_push claim columns column last t None (Some register) e is test h = record {
  column = omega (arith, e, long_push columns column);
  below = test.0;
  wrong = λ holds. test.1 (next_out claim columns column last t register e is holds);
  columns_before =
      λ u other lt small. older claim columns column u other (omega (arith, lt, e))
      (h u other (omega (arith, lt, e)) small);
  registers_before = λ other lt. next_in claim columns column last t other e is (test.2 other lt);
}
found_push claim columns column last t None None e is test h =
    λ u other lt small. elim (cases_lt u (length columns)) as (λ _. Holds claim (columns ++ column ∷ []) u other) [
      | inl less ↦ older claim columns column u other less (h u other less small)
      | inr more ↦ (let P : ℕ → Type 0 = λ v. Holds claim (columns ++ column ∷ []) v other in
          let same : t ≡ u = omega (arith, e, lt, more, long_push columns column) in
          subst P same (next_in claim columns column last t other e is (test other small)))
    ]

pub CheckStandsFor-push : (before now : Checking) (columns : List (List ℕ)) (column : List ℕ) (found : Option ℕ)
    → now.claim ≡ before.claim → now.count ≡ before.count + 1 → now.last ≡ column
    → now.wrong ≡ first_place before.wrong before.count found
    → IsFirstFailing (λ r. HoldsAt before.claim before.count before.last column r) found
    → CheckStandsFor before columns → CheckStandsFor now (columns ++ column ∷ [])
CheckStandsFor-push before now columns column found ec en el ew test stands =
    let P : Claim → Option (ℕ × ℕ) → Type 0 = λ claim wrong. IsFound claim (columns ++ column ∷ []) wrong in
    let there = found_push before.claim columns column before.last before.count before.wrong found stands.count
    stands.last test stands.found in
    let Q : Claim → Type 0 = λ claim. P claim (first_place before.wrong before.count found) in
    let R : Option (ℕ × ℕ) → Type 0 = λ wrong. P now.claim wrong in
    let end : length (columns ++ column ∷ []) - 1 ≡ length columns = omega (arith, long_push columns column) in
    record {
      count = omega (arith, en, stands.count, long_push columns column);
      last = λ _. el ∙ sym (new_at columns column) ∙ ap (column_at (columns ++ column ∷ [])) (sym end);
      found = subst R (sym ew) (subst Q (sym ec) there);
    }

-- the test of edges, of the step between the last column and the next
pub edges_tested : (claim : Claim) (count t place end : ℕ) (last sums octets : List ℕ) (found : Option ℕ) → 0 < count
    → t ≡ claim.first + (count - 1)
    → place ≡ steps_size claim.rate claim.first (count - 1) → end ≡ place + step_size claim.rate t
    → octets ≡ take (end - place) (drop place claim.soft)
    → IsFirstFailing (λ r. IsLowEnough (λ from bit. cost (step_symbols claim.rate claim.invert t from bit) octets)
    last sums r) found
    → IsFirstFailing (λ r. HoldsAt claim count last sums r) found
edges_tested claim count t place end last sums octets found some at here to is test =
    let k = count - 1 in
    let same : suc k ≡ count = omega (arith, some) in
    let size : end - place ≡ step_size claim.rate (claim.first + k) = omega (arith, to, ap (step_size claim.rate) at) in
    let whole : octets ≡ step_octets claim k = is ∙ ap (λ v. take v (drop place claim.soft)) size
    ∙ ap (λ v. take (step_size claim.rate (claim.first + k)) (drop v claim.soft)) here in
    let P : ℕ → Type 0 = λ v. IsFirstFailing (λ r. IsLowEnough
    (λ from bit. cost (step_symbols claim.rate claim.invert v from bit) octets) last sums r) found in
    let Q : List ℕ → Type 0 = λ v. IsFirstFailing (λ r. IsLowEnough
    (λ from bit. cost (step_symbols claim.rate claim.invert (claim.first + k) from bit) v) last sums r) found in
    let R : ℕ → Type 0 = λ v. IsFirstFailing (λ r. HoldsAt claim v last sums r) found in
    subst R same (subst Q whole (subst P at test))
