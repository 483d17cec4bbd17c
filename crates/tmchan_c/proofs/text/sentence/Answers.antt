use Rattle.std.proofs.Common.{rules, ◌≡◌, ◌<◌, ◌-◌, ◌∙◌, ℕ, List, length, get_or, to_z, of_z, w64, sym, subst, arith}
use Rattle.std.proofs.lemmas.List.{get_or_past}
use Rattle.tmchan_c.specs.Texts.{no_text, refusal_texts, text_room}
use Rattle.tmchan_c.proofs.Texts.{below, text-short}
use Rattle.tmchan_c.proofs.text.sentence.Goals as goal

pub returns-then-depth-le38-clause-text : goal.returns-then-depth-le38-clause-text
returns-then-depth-le38-clause-text c =
    let same : to_z w64 (of_z w64 c.args.answer) ≡ c.args.answer = search rules in
    let depth = c.unsigned_abs-depth.result in
    let at : c.text_at.result.now ≡ get_or refusal_texts (depth - 1) no_text = c.text_at.ensures in
    at ∙ below c.args.answer _ _ same c.if-answer-ge0.false c.unsigned_abs-depth.ensures.value

pub returns-then-depth-le38-clause-short : goal.returns-then-depth-le38-clause-short
returns-then-depth-le38-clause-short c =
    subst (λ (t : List ℕ). length t < text_room) (sym (returns-then-depth-le38-clause-text c))
    (text-short c.args.answer)

pub returns-else-depth-le38-clause-text : goal.returns-else-depth-le38-clause-text
returns-else-depth-le38-clause-text c =
    let same : to_z w64 (of_z w64 c.args.answer) ≡ c.args.answer = search rules in
    sym (get_or_past refusal_texts (c.unsigned_abs-depth.result - 1) no_text (omega (arith, c.if-depth-le38.false)))
    ∙ below c.args.answer _ _ same c.if-answer-ge0.false c.unsigned_abs-depth.ensures.value
