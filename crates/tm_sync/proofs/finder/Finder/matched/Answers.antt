use Rattle.std.proofs.Common.{◌≡◌, ◌∙◌, take, ap, false}
use Rattle.std.proofs.lemmas.List.{length-take-le}
use Rattle.tm_sync.specs.Finding.{Finding}
use Rattle.tm_sync.proofs.Ahead.{wrong-first}
use Rattle.tm_sync.proofs.finder.Finder.matched.Goals as goal

pub returns : goal.returns
returns c =
    let bits = c.args.recent.now.bits in
    let size = length-take-le 32 bits c.requires in
    let wrong = c.distance_of.ensures (take 32 bits) size
    (c.wrong_count.ensures.upright (take 32 bits) size c.word.ensures)
    ∙ wrong-first c.args.inverted bits c.requires in
    let passed : c.self.inside.passed
    ≡ c.args.self.now.passed = ap (λ (f : Finding). f.passed) c.self.view_is in
    λ i. record
    { place = passed i; distance = wrong i; bridged = false; inverted = c.args.inverted }
