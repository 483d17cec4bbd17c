use Rattle.std.proofs.Common.{ℕ, arith, ap, sym, ◌∙◌, refl, set, length-set, inl, inr}
use Rattle.std.specs.Prelude.{bit_xor}
use Rattle.std.proofs.lemmas.Bool.{cases_eq}
use Rattle.tm_gf256.specs.Poly.{entry}
use Rattle.tm_rs_code.specs.Recurrence.{patched}
use Rattle.tm_rs_code.proofs.Recurrence.{patched_low, patched_high}
use Rattle.tm_rs_code.proofs.Writes.{entry-set_same, entry-set_other}
use Rattle.tm_rs.proofs.recurrence.patch.Goals as goal

pub loop-i-init : goal.loop-i-init
loop-i-init g c = record {
  done =
      λ j below inside. sym (patched_low (entry c.args.coefs.now)
      (entry c.args.other.now) c.args.q.0 c.args.m j below);
  room = refl;
  left = λ j above. refl;
  after = λ j above. refl;
  counted = omega arith;
  most = omega arith;
}

pub loop-i-preserved : goal.loop-i-preserved
loop-i-preserved g c = record {
  done = λ j below inside.
      elim (cases_eq j c.loop-i.i) [
        | inl e ↦
            ap (entry (set c.loop-i.coefs c.loop-i.i c.add.result)) e
            ∙ entry-set_same c.loop-i.coefs c.loop-i.i c.add.result (omega (arith, c.loop-i.invariant.room))
            ∙ c.add.ensures
            ∙ ap (λ (y : ℕ). bit_xor y c.product.result.0) (c.loop-i.invariant.left c.loop-i.i (omega arith))
            ∙ ap (bit_xor (entry c.args.coefs.now c.loop-i.i)) c.product.ensures.value
            ∙ sym (patched_high (entry c.args.coefs.now) (entry c.args.other.now) c.args.q.0 c.args.m c.loop-i.i
            (omega arith))
            ∙ ap (patched (entry c.args.coefs.now) c.args.q.0 c.args.m (entry c.args.other.now)) (sym e)
        | inr ne ↦ entry-set_other c.loop-i.coefs c.loop-i.i j c.add.result ne
            ∙ c.loop-i.invariant.done j (omega arith) inside
      ];
  room = length-set c.loop-i.coefs c.loop-i.i c.add.result ∙ c.loop-i.invariant.room;
  left =
      λ j above. entry-set_other c.loop-i.coefs c.loop-i.i j c.add.result (omega arith)
      ∙ c.loop-i.invariant.left j (omega arith);
  after =
      λ j above. entry-set_other c.loop-i.coefs c.loop-i.i j c.add.result (omega arith)
      ∙ c.loop-i.invariant.after j above;
  counted = omega (arith, c.loop-i.invariant.counted, c.product.ensures.counted);
  most = omega (arith, c.loop-i.invariant.counted, c.product.ensures.counted);
}
