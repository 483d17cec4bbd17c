use Rattle.std.proofs.Common.{◌≤◌, ◌∙◌, length, length-drop, take, drop, sym, ap, arith}
use Rattle.std.proofs.lemmas.List.{length-take-le}
use Rattle.tm_sync.specs.Finding.{Finding}
use Rattle.tm_sync.proofs.Looks.{match-received}
use Rattle.tm_sync.proofs.finder.Finder.polarity.Goals as goal

pub returns : goal.returns
returns c =
    let rules = c.args.self.now.rules in
    let bits = drop c.args.at c.args.recent.now.bits in
    let there = length-drop c.args.at c.args.recent.now.bits in
    let long : 32 ≤ length bits = omega arith in
    let size = length-take-le 32 bits long in
    c.polarity_of.ensures rules (take 32 bits)
    (ap (λ (f : Finding). f.rules.tolerance) (sym c.self.view_is))
    (ap (λ (f : Finding). f.rules.either) (sym c.self.view_is)) size
    (c.wrong_count.ensures.upright (take 32 bits) size c.word.ensures)
    ∙ match-received rules bits long
