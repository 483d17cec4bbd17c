use Rattle.tm_workers.specs.Drawing.{remaining_part, cut_part}
use Rattle.tm_workers.proofs.tickets.Tickets.split.Given as goal

abbrev pub ghosts-cut_shares : goal.ghosts-cut_shares
ghosts-cut_shares a = record { left = remaining_part a.part; right = cut_part a.part }
