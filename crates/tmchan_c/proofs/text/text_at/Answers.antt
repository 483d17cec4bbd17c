use Rattle.std.proofs.Common.{sym}
use Rattle.std.proofs.lemmas.List.{get_or-map}
use Rattle.tmchan_c.specs.Texts.{no_text}
use Rattle.tmchan_c.proofs.text.text_at.Goals as goal

pub returns : goal.returns
returns c = sym (get_or-map (λ t. t.now) c.args.texts.now c.args.index _ no_text c.requires)
