use Rattle.std.proofs.Common.{[], ◌∷◌, refl}
use Rattle.tm_driver.specs.Lines.{left_over_text}
use Rattle.tm_driver.specs.Writing.{Note}
use Rattle.tm_cli.proofs.Encoded.{encodes-all}
use Rattle.tm_cli.proofs.encode_command.EncodingStage.finish.Goals as goal

pub returns : goal.returns
returns g c = record {
  texts = Note (left_over_text c.left_over.result) ∷ [];
  handed = (c.note_rest.new.texts, c.note_rest.ensures.given, refl);
  finished = λ new given done few e.
      encodes-all new c.args.self.now given done c.left_over.result c.note_rest.result
      (c.left_over.ensures given e.stands) c.note_rest.ensures.outcome e;
}
