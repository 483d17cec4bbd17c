-- The options, and their values from texts to numbers.
use Rattle.std.specs.Prelude.{ℕ, ◌-◌, ◌^◌, ◌&&◌, Bool, nat_le, min, length, List, [], ◌∷◌, Option, unwrap_or, option_map, codes, Some, None, true, false, if◌then◌else◌}
use Rattle.std.specs.List.{list_all}
use Rattle.std.specs.Char.{is_ascii_digit}
use Rattle.std.specs.Str.{bytes_eq}
use Rattle.std.specs.Str.Parse.{digits_value}
use Rattle.clap.specs.Words.{Text, Row, first_of}
use Rattle.tm_conv.specs.declared.rates.Rate.TheVariants.{R12, R23, R34, R56, R78}
use Rattle.tm_gf256.specs.declared.basis.Basis.TheVariants.{Dual, Poly}
use Rattle.tm_viterbi.specs.declared.block.Start.TheVariants.{Zero, Any}
use Rattle.tm_config.specs.declared.values.OuterCode.TheVariants.{Rs16, Rs8, Uncoded}
use Rattle.tm_config.specs.declared.values.PhaseMode.TheVariants as mode
use Rattle.tm_config.specs.declared.values.Raw.{Raw}
use Rattle.tm_config.specs.declared.values.SoftForm.TheVariants.{Unsigned, Signed}
use Rattle.tm_config.specs.declared.values.Sought.TheVariants.{Given, Find}
use Rattle.tm_config.specs.Configuration.{correctable, default_raw, number_of_basis, number_of_form}
use Rattle.tm_config.specs.Configuration.{number_of_mode, number_of_rate, number_of_sought}
use Rattle.tm_config.specs.Configuration.{number_of_start, number_of_switch}

-- stands for each text that is no number and no word of its option, and is outside every list and
-- range
abbrev pub no_number : ℕ
no_number = 2 ^ 64 - 1

-- the most digits of a numeral: those of `no_number`
abbrev pub longest_numeral : ℕ
longest_numeral = 20

-- decimal digits, at least one
abbrev pub is_numeral : Text → Bool
is_numeral text =
    nat_le 1 (length text) && nat_le (length text) longest_numeral
    && list_all is_ascii_digit text

-- the value of a numeral, if it is less than `no_number`
abbrev pub number_of : Text → ℕ
number_of text = if is_numeral text then min (digits_value 10 text) no_number else no_number

-- the number that stands for a word of an option
abbrev pub number_of_word : List (Text × ℕ) → Text → ℕ
number_of_word [] text = no_number
number_of_word ((word, number) ∷ words) text =
    if bytes_eq text word then number else number_of_word words text

-- an option by its name, with its words and the number that stands for each; one that has no words
-- takes a number
abbrev pub OptionRow : Type 0
OptionRow = Text × List (Text × ℕ)

abbrev pub switch_words : List (Text × ℕ)
switch_words = (codes "on", number_of_switch true) ∷ (codes "off", number_of_switch false) ∷ []

abbrev pub sought_words : List (Text × ℕ)
sought_words = (codes "given", number_of_sought Given) ∷ (codes "find", number_of_sought Find) ∷ []

abbrev pub phase_words : List (Text × ℕ)
phase_words =
    (codes "given", number_of_mode mode.Given)
    ∷ (codes "find", number_of_mode mode.Find)
    ∷ (codes "follow", number_of_mode mode.Follow)
    ∷ []

-- the rates of the convolutional code by their two digits, or no code
abbrev pub rate_words : List (Text × ℕ)
rate_words =
    (codes "none", number_of_rate None)
    ∷ (codes "1/2", number_of_rate (Some R12))
    ∷ (codes "2/3", number_of_rate (Some R23))
    ∷ (codes "3/4", number_of_rate (Some R34))
    ∷ (codes "5/6", number_of_rate (Some R56))
    ∷ (codes "7/8", number_of_rate (Some R78))
    ∷ []

-- the Reed-Solomon codes of the standard by the symbol errors that each corrects, or no code
abbrev pub code_words : List (Text × ℕ)
code_words =
    (codes "rs16", correctable Rs16)
    ∷ (codes "rs8", correctable Rs8)
    ∷ (codes "none", correctable Uncoded)
    ∷ []

abbrev pub basis_words : List (Text × ℕ)
basis_words = (codes "dual", number_of_basis Dual) ∷ (codes "poly", number_of_basis Poly) ∷ []

abbrev pub form_words : List (Text × ℕ)
form_words = (codes "u8", number_of_form Unsigned) ∷ (codes "i8", number_of_form Signed) ∷ []

abbrev pub start_words : List (Text × ℕ)
start_words = (codes "zero", number_of_start Zero) ∷ (codes "any", number_of_start Any) ∷ []

-- what becomes of a frame with an uncorrectable column
abbrev pub bad_words : List (Text × ℕ)
bad_words = (codes "drop", number_of_switch false) ∷ (codes "pass", number_of_switch true) ∷ []

-- the options of every command
abbrev pub options : List OptionRow
options =
    (codes "code", code_words)
    ∷ (codes "depth", [])
    ∷ (codes "length", [])
    ∷ (codes "inner", rate_words)
    ∷ (codes "invert", switch_words)
    ∷ (codes "randomize", switch_words)
    ∷ (codes "basis", basis_words)
    ∷ (codes "tolerance", [])
    ∷ (codes "repair", [])
    ∷ (codes "soft", form_words)
    ∷ (codes "start", start_words)
    ∷ (codes "skip", [])
    ∷ (codes "workers", [])
    ∷ (codes "limit", [])
    ∷ (codes "fly", [])
    ∷ (codes "keep", [])
    ∷ (codes "ahead", [])
    ∷ (codes "phase", phase_words)
    ∷ (codes "polarity", sought_words)
    ∷ (codes "batch", [])
    ∷ (codes "pack", switch_words)
    ∷ (codes "verify", [])
    ∷ (codes "rescan", switch_words)
    ∷ (codes "bad", bad_words)
    ∷ []

-- the options that `soak` has besides
abbrev pub soak_options : List OptionRow
soak_options = (codes "seed", []) ∷ (codes "frames", []) ∷ (codes "hits", []) ∷ []

-- the words of the option that has the name, or none
abbrev pub words_among : List OptionRow → Text → List (Text × ℕ)
words_among [] name = []
words_among ((option, words) ∷ rest) name =
    if bytes_eq name option then words else words_among rest name

-- the number that a text gives of an option with these words
abbrev pub number_in : List (Text × ℕ) → Text → ℕ
number_in [] text = number_of text
number_in (word ∷ words) text = number_of_word (word ∷ words) text

-- the number that was given for an option, if one was
unfoldable pub number_given : Text → List Row → Option ℕ
number_given option rows =
    option_map (number_in (words_among options option)) (first_of option rows)

-- the values of the options, each as it was given or by default
abbrev pub raw_of : List Row → Raw
raw_of rows = record {
  code = unwrap_or (number_given (codes "code") rows) default_raw.code;
  depth = unwrap_or (number_given (codes "depth") rows) default_raw.depth;
  length = number_given (codes "length") rows;
  inner = unwrap_or (number_given (codes "inner") rows) default_raw.inner;
  invert = number_given (codes "invert") rows;
  randomize = unwrap_or (number_given (codes "randomize") rows) default_raw.randomize;
  basis = unwrap_or (number_given (codes "basis") rows) default_raw.basis;
  tolerance = unwrap_or (number_given (codes "tolerance") rows) default_raw.tolerance;
  repair = number_given (codes "repair") rows;
  soft = unwrap_or (number_given (codes "soft") rows) default_raw.soft;
  start = unwrap_or (number_given (codes "start") rows) default_raw.start;
  skip = unwrap_or (number_given (codes "skip") rows) default_raw.skip;
  workers = unwrap_or (number_given (codes "workers") rows) default_raw.workers;
  limit = unwrap_or (number_given (codes "limit") rows) default_raw.limit;
  fly = unwrap_or (number_given (codes "fly") rows) default_raw.fly;
  keep = unwrap_or (number_given (codes "keep") rows) default_raw.keep;
  ahead = unwrap_or (number_given (codes "ahead") rows) default_raw.ahead;
  phase = unwrap_or (number_given (codes "phase") rows) default_raw.phase;
  polarity = unwrap_or (number_given (codes "polarity") rows) default_raw.polarity;
  batch = unwrap_or (number_given (codes "batch") rows) default_raw.batch;
  pack = unwrap_or (number_given (codes "pack") rows) default_raw.pack;
  verify = unwrap_or (number_given (codes "verify") rows) default_raw.verify;
  rescan = unwrap_or (number_given (codes "rescan") rows) default_raw.rescan;
  bad = unwrap_or (number_given (codes "bad") rows) default_raw.bad;
}
