use Rattle.std.proofs.Common.{◌≡◌, ◌+◌, ◌-◌, ◌*◌, ◌∙◌, ap, get_or, length-set, arith, refl, inl, inr, set, ℕ}
use Rattle.std.proofs.lemmas.Bool.{cases_eq}
use Rattle.tm_gf256.specs.declared.Gf.{Gf}
use Rattle.tm_gf256.specs.Poly.{entry, numbers, value_at}
use Rattle.tm_rs_code.specs.Code.{root}
use Rattle.tm_rs_code.proofs.Numbers.{entry-zeros}
use Rattle.tm_rs_code.proofs.Writes.{entry-set_same, entry-set_other, at_root}
use Rattle.tm_rs_code.proofs.word_values.short_syndromes.Goals as goal

pub loop-k-init : goal.loop-k-init
loop-k-init c = record { size = refl; values = λ j lt. absurd (omega arith); rest = λ j le. entry-zeros 32 j }

pub loop-k-preserved : goal.loop-k-preserved
loop-k-preserved c =
    let at = 16 - c.e-e.result + c.loop-k.k in
    let v : Gf = record { 0 = get_or c.store_values.new.out at 0 } in
    let place : 16 * 7 + at ≡ 128 - c.e-e.result + c.loop-k.k =
    omega (arith, c.e-e.ensures.value, c.e-e.ensures.range) in
    record {
      size = length-set c.loop-k.found c.loop-k.k v ∙ c.loop-k.invariant.size;
      values = λ j lt. elim (cases_eq j c.loop-k.k) [
        | inl e ↦ ap (entry (set c.loop-k.found c.loop-k.k v)) e
            ∙ entry-set_same c.loop-k.found c.loop-k.k v (omega (arith, c.loop-k.invariant.size))
            ∙ at_root (numbers c.args.word.now) c.e-e.result c.loop-k.k (16 * 7 + at) v.0 place
            (c.store_values.ensures.values at (omega arith))
            ∙ ap (λ (i : ℕ). value_at (numbers c.args.word.now) (root c.e-e.result i)) (omega (arith, e))
        | inr ne ↦ entry-set_other c.loop-k.found c.loop-k.k j v ne ∙ c.loop-k.invariant.values j (omega arith)
      ];
      rest =
          λ j le. entry-set_other c.loop-k.found c.loop-k.k j v (omega arith)
          ∙ c.loop-k.invariant.rest j (omega arith);
    }
