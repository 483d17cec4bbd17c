-- Columns of a window, one after the other, and those that are given.
use Rattle.std.proofs.Common.{◌≡◌, ℕ, zero, suc, ◌+◌, ◌≤◌, ◌∙◌, refl, sym, ap, subst, arith, List, [], ◌∷◌, ◌++◌, Bool, Option, take, length, get_or, length-append, inl, inr}
use Rattle.std.proofs.Math.Path.{transport}
use Rattle.std.proofs.lemmas.Bool.{cases_lt}
use Rattle.std.proofs.lemmas.List.{append-nil, get_or_append_left, length-take-le}
use Rattle.std.proofs.lemmas.Grind.{flat_map-append}
use Rattle.std.proofs.Math.Seq.{get_or-append_seam}
use Rattle.std.specs.Prelude.{flat_map}
use Rattle.tm_conv.specs.declared.rates.Rate.{Rate}
use Rattle.tm_conv.specs.Path.{steps_size}
use Rattle.tm_conv.specs.Columns.{IsColumn}
use Rattle.tm_conv.proofs.Paths.{steps_size-zero}
use Rattle.tm_driver.specs.Writing.{Text, Out, TookOut}
use Rattle.tm_driver.proofs.Writing.{took_out-more, took_out-one}
use Rattle.tm_viterbi.specs.Starts.{starts_from}
use Rattle.tm_cert_file.specs.Window.{column_octets}
use Rattle.tm_cert_file.specs.Certificate.{AreColumns}
use Rattle.tm_conv.proofs.Sizes.{steps_size-le}

-- octets of whole steps have a column
abbrev pub HasColumn : Type 0
HasColumn =
    (starts : ℕ → Bool) (rate : Rate) (invert : Bool) (t steps : ℕ) (octets : List ℕ)
    → length octets ≡ steps_size rate t steps
    → (column : List ℕ) × IsColumn starts rate invert t octets column

-- ---- columns

pub columns-first : (rate : Rate) (invert : Bool) (starts : Option ℕ) (t steps : ℕ) (octets column : List ℕ)
    → steps ≡ 0 → IsColumn (starts_from starts) rate invert t [] column
    → AreColumns rate invert starts t steps octets (column ∷ [])
columns-first rate invert starts t steps octets column none is = record { count = omega (arith, none); each = by }
  where
    by : (k : ℕ) → k ≤ steps → IsColumn (starts_from starts) rate invert t (take (steps_size rate t k) octets)
        (get_or (column ∷ []) k [])
    by zero le = rw steps_size-zero is
    by (suc k) le = absurd (omega (arith, none))

pub columns-push : (rate : Rate) (invert : Bool) (starts : Option ℕ) (t steps next : ℕ) (octets column : List ℕ)
    (columns : List (List ℕ)) → next ≡ steps + 1 → AreColumns rate invert starts t steps octets columns
    → IsColumn (starts_from starts) rate invert t (take (steps_size rate t next) octets) column
    → AreColumns rate invert starts t next octets (columns ++ column ∷ [])
columns-push rate invert starts t steps next octets column columns more are is = record {
  count = length-append columns (column ∷ []) ∙ omega (arith, are.count, more);
  each = λ k le. elim (cases_lt steps k) [
    | inr below ↦ subst (IsColumn (starts_from starts) rate invert t (take (steps_size rate t k) octets))
        (sym (get_or_append_left columns (column ∷ []) [] k (omega (arith, are.count)))) (are.each k below)
    | inl last ↦
        let same : next ≡ k = omega (arith, more) in
        let place : length columns ≡ k = omega (arith, are.count, more) in
        transport (λ i. IsColumn (starts_from starts) rate invert t (take (steps_size rate t (same i)) octets)
        ((sym (get_or-append_seam columns column [] []) ∙ ap (λ i. get_or (columns ++ column ∷ []) i []) place) i)) is
  ];
}

-- the columns of all steps
pub columns-all : HasColumn → (rate : Rate) (invert : Bool) (starts : Option ℕ) (t steps : ℕ) (octets : List ℕ)
    → steps_size rate t steps ≤ length octets
    → (columns : List (List ℕ)) × AreColumns rate invert starts t steps octets columns
columns-all exists rate invert starts t zero octets there =
    let first = exists (starts_from starts) rate invert t 0 [] (sym (steps_size-zero rate t)) in
    (first.0 ∷ [], columns-first rate invert starts t 0 octets first.0 refl first.1)
columns-all exists rate invert starts t (suc steps) octets there =
    let others = columns-all exists rate invert starts t steps octets
    (omega (arith, there, steps_size-le rate t steps (suc steps) (omega arith))) in
    let next = exists (starts_from starts) rate invert t (suc steps) (take (steps_size rate t (suc steps)) octets)
    (length-take-le (steps_size rate t (suc steps)) octets there) in (
      others.0 ++ next.0 ∷ [],
      columns-push rate invert starts t steps (suc steps) octets next.0 others.0 (omega arith) others.1 next.1,
    )

-- ---- what is written of them

-- the columns before and after the first steps were given
pub record TookColumns {T : Type 0} (took : T → Text → T → Type 0) (rate : Rate) (invert : Bool) (starts : Option ℕ)
    (t steps : ℕ) (octets : List ℕ) (before now : T) : Type 0 where
  pub columns : List (List ℕ)
  pub are : AreColumns rate invert starts t steps octets columns
  pub gave : TookOut took before now (flat_map column_octets columns)

pub took-first : {T : Type 0} (took : T → Text → T → Type 0) (rate : Rate) (invert : Bool) (starts : Option ℕ)
    (t steps : ℕ) (octets column : List ℕ) (a b : T) → steps ≡ 0
    → IsColumn (starts_from starts) rate invert t [] column
    → took a (Out (column_octets column)) b → TookColumns took rate invert starts t steps octets a b
took-first took rate invert starts t steps octets column a b none is gave = record {
  columns = column ∷ [];
  are = columns-first rate invert starts t steps octets column none is;
  gave = rw append-nil (took_out-one took a b (column_octets column) gave);
}

pub took-push : {T : Type 0} (took : T → Text → T → Type 0) (rate : Rate) (invert : Bool) (starts : Option ℕ)
    (t steps next : ℕ) (octets column : List ℕ) (a b c : T) → next ≡ steps + 1
    → TookColumns took rate invert starts t steps octets a b
    → IsColumn (starts_from starts) rate invert t (take (steps_size rate t next) octets) column
    → took b (Out (column_octets column)) c → TookColumns took rate invert starts t next octets a c
took-push took rate invert starts t steps next octets column a b c more first is gave = record {
  columns = first.columns ++ column ∷ [];
  are = columns-push rate invert starts t steps next octets column first.columns more first.are is;
  gave =
      subst (TookOut took a c) (sym (flat_map-append column_octets first.columns (column ∷ [])
      ∙ ap (λ v. flat_map column_octets first.columns ++ v) (append-nil (column_octets column))))
      (took_out-more took a b c (flat_map column_octets first.columns) (column_octets column) first.gave
      (took_out-one took b c (column_octets column) gave));
}
