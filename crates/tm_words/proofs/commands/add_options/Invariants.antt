use Rattle.std.proofs.Common.{◌≡◌, map, take, false}
use Rattle.clap.specs.Words.{app_of}
use Rattle.clap.specs.Simple.{on_top}
use Rattle.clap.specs.declared.builder.command.Command.TheViews.{out-Command as fields_of}
use Rattle.tm_words.specs.CommandLine.{with_options}
use Rattle.tm_words.proofs.commands.add_options.Given as goal

abbrev pub invariant-loop-name : goal.invariant-loop-name
invariant-loop-name l = record {
  app : app_of l.command
      ≡ on_top (with_options (map (λ option. option.0.now) (take l.name-index l.options))) (app_of l.fn.command);
  local : (fields_of l.command).has_globals ≡ false;
}
