use Rattle.std.proofs.Common.{◌≡◌, ◌-◌, ℕ, length, refl, Bool, arith, ap, sym, ◌∙◌, inl, inr, true, false}
use Rattle.std.specs.Prelude.{slice_index_or}
use Rattle.std.proofs.lemmas.Bool.{cases_eq}
use Rattle.tm_rs.proofs.errata.avoids_erased.Goals as goal
use Rattle.tm_rs.proofs.errata.avoids_erased.Goals.{else-erased-i-via-then-erased-i+else-values-n-eq0, else-erased-i-via-else-erased-i}

not_both : (b : Bool) → b ≡ false → b ≡ true → ⊥
not_both b e f = grind arith

pub returns-then-values-n-eq0 : goal.returns-then-values-n-eq0
returns-then-values-n-eq0 c = λ poly are. (
  (λ t. absurd (not_both false refl t)),
  (λ h. absurd (h c.loop-i.i (omega arith) c.if-erased-i.true
      (sym (are (length c.args.erased.now - 1 - c.loop-i.i) (omega arith)) ∙ c.if-values-n-eq0.true))),
)

pub loop-i-preserved : goal.loop-i-preserved
loop-i-preserved c = λ j below f z.
    elim (cases_eq j c.loop-i.i) [
      | inr ne ↦ c.loop-i.invariant j (omega arith) f z
      | inl e ↦
          let f' : slice_index_or c.args.erased.now c.loop-i.i false ≡ true =
          ap (λ (k : ℕ). slice_index_or c.args.erased.now k false) (sym e) ∙ f in
          let z' : slice_index_or c.args.values.now (length c.args.erased.now - 1 - c.loop-i.i) 0 ≡ 0 =
          ap (λ (k : ℕ). slice_index_or c.args.values.now (length c.args.erased.now - 1 - k) 0) (sym e) ∙ z in
          elim c.else-erased-i.branch [
            | else-erased-i-via-then-erased-i+else-values-n-eq0 w ↦ w.if-values-n-eq0.false z'
            | else-erased-i-via-else-erased-i w ↦ not_both (slice_index_or c.args.erased.now c.loop-i.i false)
                w.if-erased-i.false f'
          ]
    ]

pub returns : goal.returns
returns c = λ poly are. (
  (λ t i lt f z. c.loop-i.invariant i (omega arith) f (are (length c.args.erased.now - 1 - i) (omega arith) ∙ z)),
  (λ h. refl),
)
