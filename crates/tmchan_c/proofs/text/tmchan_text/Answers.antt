use Rattle.std.proofs.Common.{rules, ◌≡◌, ◌∙◌, ℕ, List, pos, length, to_z, of_z, w32, w64, ap}
use Rattle.tmchan_c.specs.Texts.{text_of}
use Rattle.tmchan_c.proofs.Texts.{ended}
use Rattle.tmchan_c.proofs.text.tmchan_text.Goals as goal

pub returns-clause-text : goal.returns-clause-text
returns-clause-text c = λ room.
    let same : to_z w64 (of_z w64 c.args.answer) ≡ c.args.answer = search rules in
    let is = c.sentence-sentence.ensures.text ∙ ap text_of same in
    let count : to_z w32 (length c.sentence-sentence.result.now) ≡ pos (length c.sentence-sentence.result.now) =
    search rules in (
      count ∙ ap (λ (t : List ℕ). pos (length t)) is,
      ended c.args.text.now _ (text_of c.args.answer) _
          (c.copy_from_slice.ensures.after ∙ c.as_bytes.ensures.value ∙ is) (ap length is) room,
    )
