use Rattle.std.proofs.Common.{◌≡◌, ◌∙◌, ℕ, List, sym, ap, subst}
use Rattle.tm_base.specs.Handed.{Handed, items_of}
use Rattle.tm_viterbi.specs.WindowBlock.{WindowBlock}
use Rattle.tm_windows.specs.Windows.{slips_of}
use Rattle.tm_inner.specs.Receiving.{HasHanded, InnerReceiving}
use Rattle.tm_inner.proofs.DecoderReads.{read-all}
use Rattle.tm_inner.proofs.PhasePieces.{items_of-with_phase}
use Rattle.tm_inner.proofs.inner_receiver.InnerReceiver.slips.Goals as goal

pub returns : goal.returns
returns c =
    let d = c.self.inside.decoder in
    subst (λ (r : InnerReceiving). (given : List ℕ) (done : List (Handed WindowBlock)) → HasHanded r.decoder given done
    → c.slips.result ≡ slips_of (items_of done)) c.self.view_is
    (λ given done h. c.slips.ensures given h.read.blocks h.read.stands
    ∙ ap slips_of (sym (ap items_of (read-all d given done h.read h.all) ∙ items_of-with_phase d.chosen h.read.blocks)))
