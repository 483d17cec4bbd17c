-- Each test of columns holds or fails, so a list of columns is right or has a first wrong place, and has an answer.
use Rattle.std.proofs.Common.{◌≡◌, ℕ, zero, suc, ◌+◌, ◌-◌, ◌<◌, ◌≤◌, ◌⊎◌, inl, inr, List, length, get_or, refl, arith, Bool, IsTrue}
use Rattle.std.proofs.lemmas.Bool.{cases_lt, cases_order, cases_Bool, both_ways}
use Rattle.tm_conv.specs.Path.{next_register}
use Rattle.tm_path_cert.specs.declared.verdicts.Verdict.{Verdict}
use Rattle.tm_path_cert.specs.declared.verdicts.Verdict.TheVariants.{Yes, No, Sum}
use Rattle.tm_path_cert.specs.Claim.{Claim, is_start, edge_cost, path_cost}
use Rattle.tm_path_cert.specs.Tests.{IsLowEnough, HoldsAt, Holds, AllHold, IsFirstWrong, Pass, column_at, last_of}
use Rattle.tm_path_cert.specs.Checking.{IsVerdict}

abbrev Decided : Type 0 → Type 0
Decided P = P ⊎ (P → ⊥)

-- ---- a test of numbers, each of which passes or fails

abbrev AllBelow : (ℕ → Type 0) → ℕ → Type 0
AllBelow Test count = (k : ℕ) → k < count → Test k

-- the least number that fails
record LeastFailing (Test : ℕ → Type 0) (count : ℕ) : Type 0 where
  place : ℕ
  below : place < count
  fails : Test place → ⊥
  before : AllBelow Test place

one_more : (Test : ℕ → Type 0) (count : ℕ) → AllBelow Test count → Test count → AllBelow Test (suc count)
one_more Test count all here k lt = elim (cases_order k count) as (λ _. Test k) [
  | inl same ↦ rw same here
  | inr (inl less) ↦ all k less
  | inr (inr more) ↦ absurd (omega arith)
]

least_failing : (Test : ℕ → Type 0) (count : ℕ) → ((k : ℕ) → k < count → Decided (Test k)) → AllBelow Test count
    ⊎ LeastFailing Test count
least_failing Test zero decide = inl (λ k lt. absurd (omega arith))
least_failing Test (suc count) decide = elim (least_failing Test count (λ k lt. decide k (omega arith))) [
  | inr l ↦ inr (record { place = l.place; below = omega (arith, l.below); fails = l.fails; before = l.before })
  | inl all ↦ elim (decide count (omega arith)) [
    | inl passes ↦ inl (one_more Test count all passes)
    | inr fails ↦ inr (record { place = count; below = omega arith; fails = fails; before = all })
  ]
]

decide_all : (Test : ℕ → Type 0) (count : ℕ) → ((k : ℕ) → k < count → Decided (Test k)) → Decided (AllBelow Test count)
decide_all Test count decide = elim (least_failing Test count decide) [
  | inl all ↦ inl all
  | inr l ↦ inr (λ all. l.fails (all l.place l.below))
]

-- ---- the tests of columns

decide_le : (a b : ℕ) → Decided (a ≤ b)
decide_le a b = elim (cases_lt b a) [ inl less ↦ inr (λ le. omega arith) | inr le ↦ inl le ]

decide_same : (a b : ℕ) → Decided (a ≡ b)
decide_same a b = elim (cases_order a b) [
  | inl same ↦ inl same
  | inr (inl less) ↦ inr (λ same. omega arith)
  | inr (inr more) ↦ inr (λ same. omega arith)
]

decide_where : (P Q : Type 0) → Decided P → Decided Q → Decided (P → Q)
decide_where P Q decide_p (inl q) = inl (λ p. q)
decide_where P Q (inl p) (inr fails) = inr (λ h. fails (h p))
decide_where P Q (inr none) (inr fails) = inl (λ p. absurd (none p))

decide_true : (b : Bool) → Decided (IsTrue b)
decide_true b = elim (cases_Bool b) [ inl is ↦ inl is | inr not_so ↦ inr (λ is. both_ways b not_so is) ]

decide_keeps : (edge : ℕ → ℕ → ℕ) (before column : List ℕ) (register : ℕ)
    → Decided (IsLowEnough edge before column register)
decide_keeps edge before column register =
    let Edge : ℕ → ℕ → Type 0 = λ from bit. next_register from bit ≡ register
    → get_or column register 0 ≤ get_or before from 0 + edge from bit in
    elim (decide_all (λ from. AllBelow (Edge from) 2) 64 (λ from small. decide_all (Edge from) 2
    (λ bit lt. decide_where _ _ (decide_same _ _) (decide_le _ _)))) [
      | inl all ↦ inl (λ from bit small lt same. all from small bit lt same)
      | inr fails ↦ inr (λ keeps. fails (λ from small bit lt same. keeps from bit small lt same))
    ]

decide_holds_at : (claim : Claim) (t : ℕ) (before column : List ℕ) (register : ℕ)
    → Decided (HoldsAt claim t before column register)
decide_holds_at claim zero before column register =
    decide_where _ _ (decide_true (is_start claim.starts register)) (decide_same _ _)
decide_holds_at claim (suc k) before column register = decide_keeps (edge_cost claim k) before column register

decide_holds : (claim : Claim) (columns : List (List ℕ)) (t register : ℕ) → Decided (Holds claim columns t register)
decide_holds claim columns t register =
    decide_holds_at claim t (column_at columns (t - 1)) (column_at columns t) register

-- ---- the answer

record FirstWrong (claim : Claim) (columns : List (List ℕ)) : Type 0 where
  column : ℕ
  register : ℕ
  is : IsFirstWrong claim columns column register

all_or_first_wrong : (claim : Claim) (columns : List (List ℕ)) → AllHold claim columns ⊎ FirstWrong claim columns
all_or_first_wrong claim columns =
    let decide = decide_holds claim columns in
    elim (least_failing (λ t. AllBelow (Holds claim columns t) 64) (length columns)
    (λ t lt. decide_all _ 64 (λ register small. decide t register))) [
      | inl all ↦ inl (λ t register lt small. all t lt register small)
      | inr l ↦ elim (least_failing (Holds claim columns l.place) 64 (λ register small. decide l.place register)) [
        | inl all ↦ absurd (l.fails all)
        | inr m ↦ inr (record {
          column = l.place;
          register = m.place;
          is =
              record {
                column = l.below;
                below = m.below;
                wrong = m.fails;
                columns_before = λ u other lt small. l.before u lt other small;
                registers_before = m.before;
              };
        })
      ]
    ]

pub IsVerdict-exists : (claim : Claim) (columns : List (List ℕ)) (register : ℕ) (bits : List ℕ) (metric : ℕ)
    → (verdict : Verdict) × IsVerdict claim columns register bits metric verdict
IsVerdict-exists claim columns register bits metric = elim (all_or_first_wrong claim columns) [
  | inr wrong ↦ (No wrong.column wrong.register, inl wrong.is)
  | inl all ↦ elim (least_failing (λ state. metric ≤ get_or (last_of columns) state 0) 64
      (λ state small. decide_le _ _)) [
        | inr l ↦ (
          No (length columns - 1) l.place,
          inr (record {
            columns_hold = all;
            last = refl;
            below = l.below;
            less = elim (cases_lt (get_or (last_of columns) l.place 0) metric)
                [ inl less ↦ less | inr le ↦ absurd (l.fails le) ];
            registers_before = l.before;
          }),
        )
        | inl at_least ↦ (let pass : Pass claim columns metric = record { columns_hold = all; at_least = at_least } in
            elim (decide_same (path_cost claim register bits) metric) [
              | inl same ↦ (Yes, (pass, same))
              | inr other ↦ (Sum (path_cost claim register bits), (pass, refl, other))
            ])
      ]
]
