use Rattle.tm_channel.proofs.CleanTotals.{totals-complemented}
use Rattle.tm_channel.proofs.ComplementedOctets.{received-complemented, received-half_complemented}
use Rattle.tm_channel.proofs.SentPhase.{phase-complemented}
use Rattle.tm_channel.proofs.laws.polarity_law.Goals as goal

pub returns-clause-uncoded : goal.returns-clause-uncoded
returns-clause-uncoded c = received-complemented

pub returns-clause-half_rate : goal.returns-clause-half_rate
returns-clause-half_rate c = received-half_complemented c.complemented_blocks_law.ensures

pub returns-clause-phase : goal.returns-clause-phase
returns-clause-phase c = phase-complemented c.best_path_law.ensures.exists c.complement_law.ensures

pub returns-clause-totals : goal.returns-clause-totals
returns-clause-totals c =
    totals-complemented c.best_path_law.ensures.exists c.complement_law.ensures c.complemented_blocks_law.ensures
