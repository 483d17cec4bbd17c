use Rattle.std.proofs.Common.{◌∙◌, ap, ap₂, sym, map, take, List, ℕ, arith, Bor, Bool, ◌||◌}
use Rattle.std.proofs.lemmas.List.{map_more}
use Rattle.clap.specs.Words.{app_of, with_rule, Text}
use Rattle.clap.specs.Simple.{on_top}
use Rattle.tm_words.specs.CommandLine.{with_options}
use Rattle.tm_words.proofs.Building.{option-more}
use Rattle.tm_words.proofs.commands.add_options.Goals as goal

-- an option's name, with its words
abbrev Row : Type 0
Row = Bor (List ℕ) × Bor (List (Bor (List ℕ) × ℕ))

pub loop-name-preserved : goal.loop-name-preserved
loop-name-preserved c = record {
  app =
      c.in_ok-command.ensures.shape c.option.ensures.local
      ∙ ap₂ with_rule c.loop-name.invariant.app c.option.ensures.rule
      ∙ option-more (app_of c.args.command)
      (map (λ (option : Row). option.0.now) (take c.loop-name.name-index c.args.options.now)) _
      ∙ ap (λ (names : List Text). on_top (with_options names) (app_of c.args.command))
      (sym (map_more (λ (option : Row). option.0.now) c.args.options.now c.loop-name.name-index _ (omega arith)));
  local =
      c.in_ok-command.ensures.globals
      ∙ ap₂ (λ (a b : Bool). a || b) c.loop-name.invariant.local c.option.ensures.local;
}
