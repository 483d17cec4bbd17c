use Rattle.std.proofs.Common.{◌∙◌, sym, ap, get_or, set, length-set, get_or-set_same, get_or-set_other, arith, inl, inr, ℕ}
use Rattle.std.proofs.lemmas.Bool.{cases_eq}
use Rattle.tm_gf256.specs.Poly.{numbers, value_at}
use Rattle.tm_rs_code.specs.Code.{place_of}
use Rattle.tm_rs_code.proofs.Writes.{at_place}
use Rattle.tm_rs_code.proofs.places.plain_values_at_places.Goals as goal

pub loop-p-preserved : goal.loop-p-preserved
loop-p-preserved c = record {
  size = length-set c.loop-p.values c.loop-p.p c.number.result ∙ c.loop-p.invariant.size;
  done = λ q lt. elim (cases_eq q c.loop-p.p) [
    | inl e ↦ ap (λ (k : ℕ). get_or (set c.loop-p.values c.loop-p.p c.number.result) k 0) e
        ∙ get_or-set_same c.loop-p.values c.loop-p.p c.number.result 0 (omega (arith, c.loop-p.invariant.size))
        ∙ c.number.ensures.value
        ∙ sym (at_place (numbers c.args.poly.now) c.loop-p.p c.exp.result.0 c.eval.result.0 c.exp.ensures
        c.eval.ensures)
        ∙ ap (λ (k : ℕ). value_at (numbers c.args.poly.now) (place_of k)) (sym e)
    | inr ne ↦ get_or-set_other c.loop-p.values c.loop-p.p q c.number.result 0 ne
        ∙ c.loop-p.invariant.done q (omega arith)
  ];
}
