use Rattle.std.proofs.Common.{◌≡◌, ◌-◌, ◌∙◌, ℕ, List, [], ap, sym, arith, length, length-drop, take, drop}
use Rattle.std.proofs.lemmas.List.{take_all, drop_all}
use Rattle.tm_conv.specs.Path.{register_after}
use Rattle.tm_viterbi.proofs.StepsBack.{last_six}
use Rattle.tm_viterbi.proofs.traceback.end_register.Goals as goal

pub returns-clause-value : goal.returns-clause-value
returns-clause-value c =
    let bits = c.args.bits.now in
    let from = c.saturating_sub.result in
    let last : List ℕ = take (length bits - from) (drop from bits) in
    let end : drop c.loop-b.b-index last ≡ [] = drop_all c.loop-b.b-index last (omega (arith, c.loop-b-test.false)) in
    let whole : last ≡ drop from bits = take_all (length bits - from) (drop from bits)
    (omega (arith, length-drop from bits)) in
    let place : from ≡ length bits - 6 = omega arith in
    ap (λ (v : List ℕ). register_after c.loop-b.register v) (sym end) ∙ c.loop-b.invariant.rest
    ∙ ap (λ (v : List ℕ). register_after c.args.first v) whole
    ∙ ap (λ (n : ℕ). register_after c.args.first (drop n bits)) place
    ∙ last_six c.args.first bits c.requires.register c.requires.bits
