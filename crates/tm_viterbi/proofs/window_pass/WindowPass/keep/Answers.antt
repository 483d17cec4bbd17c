use Rattle.std.proofs.Common.{◌≡◌, ◌≤◌, ◌+◌, ◌-◌, ◌∙◌, ℕ, List, sym, ap, subst, arith, length, length-drop, take, drop}
use Rattle.std.proofs.lemmas.List.{length-take-le, with_items_is, drop-take}
use Rattle.std.proofs.lemmas.List.Edits.{take-paste}
use Rattle.std.proofs.lemmas.Slice.{take-put_mid}
use Rattle.std.specs.List.{copy_within}
use Rattle.std.specs.Vec.{with_items}
use borrow.Rule.Slice.PartMut.{put_mid}
use Rattle.tm_conv.specs.Path.{steps_size}
use Rattle.tm_viterbi.specs.Carries.{Carries}
use Rattle.tm_viterbi.proofs.Carrying.{length-mid}
use Rattle.tm_viterbi.proofs.window_pass.WindowPass.keep.Goals as goal

pub returns-then-size-len-clause-overlap : goal.returns-then-size-len-clause-overlap
returns-then-size-len-clause-overlap c rate invert carries = c.begin.ensures.overlap rate invert

pub returns-clause-overlap : goal.returns-clause-overlap
returns-clause-overlap c rate invert carries =
    let kept : ℕ = c.args.kept in
    let steps : ℕ = c.args.steps in
    let overlap : ℕ = steps - kept in
    let rest : List ℕ = c.args.rest.now in
    let size : ℕ = length rest in
    let vec = c.args.self.now.survivors in
    let old : List ℕ = vec.items in
    let rows : List ℕ = drop kept (take steps old) in
    let there : steps ≤ length old = omega (arith, c.requires.steps, vec.ok.0) in
    let long : length rows ≡ overlap =
    length-drop kept (take steps old) ∙ ap (λ (n : ℕ). n - kept) (length-take-le steps old there) in
    let before : List ℕ = c.as_mut_slice.result.now in
    let moved : List ℕ = c.copy_within.new.self in
    let moved_is : moved ≡ copy_within old kept steps 0 =
    c.copy_within.ensures.after ∙ ap (λ (l : List ℕ). copy_within l kept steps 0) c.as_mut_slice.ensures.value in
    let sum : kept + overlap ≡ steps = omega (arith, c.requires.steps.0) in
    let whole : 0 + overlap ≡ overlap = omega arith in
    let first : take overlap moved ≡ rows =
    ap (take overlap) moved_is ∙ ap (λ n. take n (copy_within old kept steps 0)) (sym whole)
    ∙ take-paste old 0 (drop kept old) overlap (omega arith) (omega (arith, length-drop kept old, there))
    ∙ sym (ap (λ (n : ℕ). drop kept (take n old)) (sym sum) ∙ drop-take kept overlap old) in
    let survivors = with_items_is vec moved (c.copy_within.ensures.len ∙ c.as_mut_slice.ensures.len) in
    let vec2 = c.args.self.now.octets in
    let room : List ℕ = c.deref_mut.result.now in
    let part : List ℕ = c.copy_from_slice.new.self in
    let part_is : part ≡ rest = c.copy_from_slice.ensures.after in
    let fits : size ≤ length room = omega (arith, c.if-size-len.false, c.len.ensures, c.deref_mut.ensures.len) in
    let all : List ℕ = put_mid 0 (size - 0) room part in
    let all_long : length all ≡ vec2.len =
    length-mid 0 (size - 0) room part (omega (arith, fits)) (omega (arith, ap length part_is)) ∙ c.deref_mut.ensures.len in
    let octets = with_items_is vec2 all all_long in
    let head : take size all ≡ rest =
    take-put_mid 0 (size - 0) room part size (omega (arith, ap length part_is)) (omega arith) ∙ part_is in
    let P : List ℕ → List ℕ → Type 0 = λ v w. Carries rate invert c.args.t v c.args.before.now c.args.after.now w in
    record {
      steps = omega (arith, c.requires.steps);
      octets = omega (arith, c.if-size-len.false, c.len.ensures);
      size = carries.size ∙ ap (steps_size rate c.args.t) long;
      bounded = λ s lt. omega (arith, c.greatest_sum.ensures s lt, c.if-greatest_sum.false);
      carries = subst (λ (w : List ℕ). P (take size (with_items vec2 all).items) w) (sym (ap (take overlap) survivors ∙ first))
          (subst (λ (v : List ℕ). P v rows) (sym (ap (take size) octets ∙ head)) carries);
    }
