use Rattle.std.proofs.Common.{ℕ, Bool, ◌-◌, ◌∙◌, sym, ap, cond, get_or, length}
use Rattle.tm_conv.specs.Path.{keeps_c1, keeps_c2, sent_c2}
use Rattle.tm_conv.specs.Cost.{distance}
use Rattle.tm_viterbi.proofs.BranchMetrics.{cost_of_pair, at_pair}
use Rattle.tm_viterbi.proofs.branch_metrics.step_metrics.Goals as goal

pub returns-clause-metrics : goal.returns-clause-metrics
returns-clause-metrics c a d al dl =
    let octets = c.args.octets.now in
    let k = keeps_c1 c.args.rate c.args.t in
    let l = keeps_c2 c.args.rate c.args.t in
    let F : Bool → ℕ → ℕ = λ k v. cond k (distance v (get_or octets 0 0)) 0 in
    let G : Bool → ℕ → ℕ = λ l v. cond l (distance (sent_c2 c.args.invert v) (get_or octets (length octets - 1) 0)) 0 in
    at_pair (F k) (G l) _ _ _ _
    (c.c1_metrics-first.ensures.zero ∙ ap (λ v. F v 0) c.kept-sends_first.ensures.c1)
    (c.c1_metrics-first.ensures.one ∙ ap (λ v. F v 1) c.kept-sends_first.ensures.c1)
    (c.c2_metrics-second.ensures.zero ∙ ap (λ v. G v 0) c.kept-sends_first.ensures.c2)
    (c.c2_metrics-second.ensures.one ∙ ap (λ v. G v 1) c.kept-sends_first.ensures.c2)
    a d al dl
    ∙ sym (cost_of_pair k l a (sent_c2 c.args.invert d) octets c.requires)
