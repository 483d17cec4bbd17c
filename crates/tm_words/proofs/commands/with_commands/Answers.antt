use Rattle.std.proofs.Common.{◌∙◌, ap, ap₂, sym, map, take, List, ℕ, arith, Bor, Bool, ◌||◌}
use Rattle.std.proofs.lemmas.List.{map_more}
use Rattle.clap.specs.Words.{with_subcommand}
use Rattle.tm_words.specs.CommandLine.{with_commands, command_shape}
use Rattle.tm_words.specs.declared.commands.JobKind.{JobKind}
use Rattle.tm_words.proofs.Building.{command-more}
use Rattle.tm_words.proofs.commands.with_commands.Goals as goal

pub loop-name-preserved : goal.loop-name-preserved
loop-name-preserved c = record {
  app =
      c.in_ok-line.ensures.shape c.in_ok-command.ensures.local
      ∙ ap₂ with_subcommand c.loop-name.invariant.app c.in_ok-command.ensures.shape
      ∙ command-more (map (λ (command : Bor (List ℕ) × JobKind). command_shape command.0.now command.1)
      (take c.loop-name.name-index c.args.commands.now)) _
      ∙ ap with_commands (sym (map_more (λ (command : Bor (List ℕ) × JobKind). command_shape command.0.now command.1)
      c.args.commands.now c.loop-name.name-index _ (omega arith)));
  local =
      c.in_ok-line.ensures.globals
      ∙ ap₂ (λ (a b : Bool). a || b) c.loop-name.invariant.local c.in_ok-command.ensures.local;
}
