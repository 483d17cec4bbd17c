-- The program's command line, as clap's rule reads it.
use Rattle.std.specs.Prelude.{◌≡◌, ◌==◌, ◌++◌, List, [], ◌∷◌, Some, true, codes, map, length, if◌then◌else◌}
use Rattle.std.specs.Str.{bytes_eq}
use Rattle.clap.specs.Words.{App, Shape, Rule, Text, new_rule}
use Rattle.clap.specs.Simple.{new_shape}
use Rattle.clap.specs.Faults.{fault_of}
use Rattle.tm_words.specs.Options.{options, soak_options}
use Rattle.tm_words.specs.declared.commands.JobKind.{JobKind}
use Rattle.tm_words.specs.declared.commands.JobKind.TheVariants.{Encode, Decode, Report, Trace, Word, Soak, Erased, Certify, Check, Bits}
use Rattle.clap.specs.declared.builder.action.ArgAction.TheVariants.{Set}

-- an option that is not required and has one value, `--name value`
abbrev pub option_rule : Text → Rule
option_rule name = record (new_rule name) { long = Some name; action = Some Set }

-- a word that is required
abbrev pub word_rule : Text → Rule
word_rule name = record (new_rule name) { required = true; action = Some Set }

-- a command with more options, by their names
abbrev pub with_options : List Text → Shape → Shape
with_options names shape = record shape { rules = shape.rules ++ map option_rule names }

-- a command with one more word
abbrev pub with_word : Text → Shape → Shape
with_word name shape = record shape { rules = shape.rules ++ word_rule name ∷ [] }

-- a command that has the options of every command and no more
abbrev pub plain_command : Text → Shape
plain_command name = with_options (map (λ option. option.0) options) (new_shape name)

-- a command of a name with what it has: `word` a word, and `soak` options of its own
abbrev pub command_shape : Text → JobKind → Shape
command_shape name Word = with_word (codes "hex") (plain_command name)
command_shape name Soak = with_options (map (λ option. option.0) soak_options) (plain_command name)
command_shape name _ = plain_command name

-- the names of the commands, and what each asks for
abbrev pub commands : List (Text × JobKind)
commands =
    (codes "encode", Encode)
    ∷ (codes "decode", Decode)
    ∷ (codes "report", Report)
    ∷ (codes "trace", Trace)
    ∷ (codes "word", Word)
    ∷ (codes "soak", Soak)
    ∷ (codes "erased", Erased)
    ∷ (codes "certify", Certify)
    ∷ (codes "check", Check)
    ∷ (codes "bits", Bits)
    ∷ []

-- the program with its commands: one of them is required, and there is no help or version
abbrev pub with_commands : List Shape → App
with_commands commands = record {
  top = record (new_shape (codes "tmchan")) {
    is_leaf = length commands == 0;
    disable_help_flag = true;
    disable_help_subcommand = true;
    disable_version_flag = true;
    subcommand_required = true;
  };
  subs = commands;
}

-- the command line
abbrev pub command_line : App
command_line = with_commands (map (λ command. command_shape command.0 command.1) commands)

-- what the command of a name asks for; clap's rule takes no name but the commands'
abbrev pub kind_among : List (Text × JobKind) → Text → JobKind
kind_among [] name = Encode
kind_among ((command, kind) ∷ rest) name = if bytes_eq name command then kind
    else kind_among rest name

abbrev pub kind_of_name : Text → JobKind
kind_of_name = kind_among commands

-- clap's rule for the command line takes the words, the first of which is the program's name
abbrev pub AreTaken : List Text → Type 0
AreTaken words = fault_of command_line words ≡ []
