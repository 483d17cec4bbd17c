use Rattle.tm_viterbi.proofs.path_cost.least_cost.Goals as goal

pub least_cost_from-requires-clause-steps : goal.least_cost_from-requires-clause-steps
least_cost_from-requires-clause-steps c = c.requires

pub returns : goal.returns
returns c = c.least_cost_from.ensures.cost
