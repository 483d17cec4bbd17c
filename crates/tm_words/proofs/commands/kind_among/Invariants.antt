use Rattle.std.proofs.Common.{◌≡◌, drop, map}
use Rattle.tm_words.specs.CommandLine.{kind_among}
use Rattle.tm_words.proofs.commands.kind_among.Given as goal

abbrev pub invariant-loop-command : goal.invariant-loop-command
invariant-loop-command l =
    kind_among (map (λ command. (command.0.now, command.1)) (drop l.command-index l.commands)) l.name
    ≡ kind_among (map (λ command. (command.0.now, command.1)) l.commands) l.name
