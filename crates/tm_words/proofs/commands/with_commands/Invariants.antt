use Rattle.std.proofs.Common.{◌≡◌, map, take, false}
use Rattle.clap.specs.Words.{app_of}
use Rattle.clap.specs.declared.builder.command.Command.TheViews.{out-Command as fields_of}
use Rattle.tm_words.specs.CommandLine.{with_commands, command_shape}
use Rattle.tm_words.proofs.commands.with_commands.Given as goal

abbrev pub invariant-loop-name : goal.invariant-loop-name
invariant-loop-name l = record {
  app : app_of l.line ≡ with_commands (map (λ command. command_shape command.0.now command.1)
      (take l.name-index l.commands));
  local : (fields_of l.line).has_globals ≡ false;
}
