-- One more option of a command.
use Rattle.std.proofs.Common.{◌≡◌, List, [], ◌∷◌, ◌++◌, map, ap, ◌∙◌, sym, append_assoc, Bool, false, length, length-append, arith, ◌==◌}
use Rattle.std.proofs.lemmas.Bool.Decides.{nat_tests}
use Rattle.std.proofs.lemmas.List.{map-append}
use Rattle.clap.specs.Words.{App, Rule, Shape, Text, with_rule, with_subcommand}
use Rattle.clap.specs.Simple.{on_top}
use Rattle.tm_words.specs.CommandLine.{with_options, option_rule, with_commands}

pub option-more : (a : App) (names : List Text) (name : Text)
    → with_rule (on_top (with_options names) a) (option_rule name) ≡ on_top (with_options (names ++ name ∷ [])) a
option-more a names name =
    ap (λ (rules : List Rule). on_top (λ s. record s { rules = rules }) a)
    (append_assoc a.top.rules (map option_rule names) (option_rule name ∷ [])
    ∙ ap (λ l. a.top.rules ++ l) (sym (map-append option_rule names (name ∷ []))))

not-empty : (shapes : List Shape) (s : Shape) → false ≡ (length (shapes ++ s ∷ []) == 0)
not-empty shapes s = grind (arith, nat_tests, length-append shapes (s ∷ []))

pub command-more : (shapes : List Shape) (s : Shape) → with_subcommand (with_commands shapes) s
    ≡ with_commands (shapes ++ s ∷ [])
command-more shapes s =
    ap (λ (leaf : Bool). record (with_commands (shapes ++ s ∷ []))
    { top = record (with_commands (shapes ++ s ∷ [])).top { is_leaf = leaf } }) (not-empty shapes s)
