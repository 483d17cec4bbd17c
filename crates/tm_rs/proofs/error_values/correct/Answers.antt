use Rattle.std.proofs.Common.{◌≡◌, ◌<◌, ◌-◌, ℕ, length, List, arith, ap, sym, ◌∙◌, inl, inr, set, get_or}
use Rattle.std.specs.Prelude.{bit_xor}
use Rattle.std.proofs.lemmas.Bool.{cases_eq}
use Rattle.tm_gf256.specs.Poly.{entry}
use Rattle.tm_rs_code.specs.ErrorValues.{symbol_at}
use Rattle.tm_rs_code.proofs.Corrections.{symbol-index}
use Rattle.tm_rs_code.proofs.Writes.{entry-set_same, entry-set_other}
use Rattle.tm_rs.proofs.Words.{sums_by_entries}
use Rattle.tm_rs.proofs.error_values.correct.Goals as goal

-- the symbol of the place that stands at index j
by_index : (w : List ℕ) (n j v : ℕ) → length w ≡ n → j < n → v ≡ symbol_at w (n - 1 - j) → v ≡ get_or w j 0
by_index w n j v len h e = e ∙ ap (λ (k : ℕ). symbol_at w (k - 1 - j)) (sym len) ∙ symbol-index w j (omega arith)

pub loop-j-preserved : goal.loop-j-preserved
loop-j-preserved c = record {
  done = λ u w h size i below. elim (cases_eq i c.loop-j.j) [
    | inl e ↦ ap (entry (set c.loop-j.word c.loop-j.j c.add.result)) e
        ∙ entry-set_same c.loop-j.word c.loop-j.j c.add.result (omega arith)
        ∙ c.add.ensures
        ∙ ap (λ (y : ℕ). bit_xor y c.error_at-error.result.0) (c.loop-j.invariant.left c.loop-j.j (omega arith))
        ∙ ap (bit_xor (entry c.args.word.now c.loop-j.j))
        (by_index w (length c.args.word.now) c.loop-j.j c.error_at-error.result.0 size (omega arith)
        (c.error_at-error.ensures u w h))
        ∙ ap (λ (k : ℕ). bit_xor (entry c.args.word.now k) (get_or w k 0)) (sym e)
    | inr ne ↦ entry-set_other c.loop-j.word c.loop-j.j i c.add.result ne
        ∙ c.loop-j.invariant.done u w h size i (omega arith)
  ];
  left =
      λ i above. entry-set_other c.loop-j.word c.loop-j.j i c.add.result (omega arith)
      ∙ c.loop-j.invariant.left i (omega arith);
}

pub returns : goal.returns
returns c = λ u w h size.
    sums_by_entries c.loop-j.word c.args.word.now w (omega arith) size
    (λ i lt. c.loop-j.invariant.done u w h size i (omega arith))
