-- What contracts see of a configuration, and what the numbers that are given for it come to.
use Rattle.std.specs.Prelude.{◌≡◌, ℕ, ◌+◌, ◌-◌, ◌*◌, ◌/◌, ◌^◌, ◌==◌, Bool, true, false, List, [], ◌∷◌}
use Rattle.std.specs.Prelude.{Option, Some, None, option_map, unwrap_or, if◌then◌else◌}
use Rattle.tm_conv.specs.declared.rates.Rate.{Rate}
use Rattle.tm_conv.specs.declared.rates.Rate.TheVariants.{R12, R23, R34, R56, R78}
use Rattle.tm_gf256.specs.Octet.{basis_of}
use Rattle.tm_gf256.specs.declared.basis.Basis.{Basis}
use Rattle.tm_gf256.specs.declared.basis.Basis.TheVariants.{Dual, Poly}
use Rattle.tm_rs_code.specs.Code.{longest_word, most_correctable, least_correctable}
use Rattle.tm_viterbi.specs.declared.block.Start.{Start}
use Rattle.tm_viterbi.specs.declared.block.Start.TheVariants.{Zero, Any}
use Rattle.tm_config.specs.declared.values.Raw.{Raw}
use Rattle.tm_config.specs.declared.values.Values.{Values}
use Rattle.tm_config.specs.declared.values.OuterCode.{OuterCode}
use Rattle.tm_config.specs.declared.values.OuterCode.TheVariants.{Rs16, Rs8, Uncoded}
use Rattle.tm_config.specs.declared.values.PhaseMode.{PhaseMode}
use Rattle.tm_config.specs.declared.values.PhaseMode.TheVariants as mode
use Rattle.tm_config.specs.declared.values.SoftForm.{SoftForm}
use Rattle.tm_config.specs.declared.values.SoftForm.TheVariants.{Unsigned, Signed}
use Rattle.tm_config.specs.declared.values.Sought.{Sought}
use Rattle.tm_config.specs.declared.values.Sought.TheVariants.{Given, Find}

-- The bounds of the options' values, but for those that crates below have: tm_base `Limits` and
-- `Marker`, tm_rs_code `Code`, tm_viterbi `WindowSizes`. The constants of the code are proved to
-- be these numbers.

-- the greatest interleaving depth (CCSDS 131.0-B, Reed-Solomon Coding)
abbrev pub deepest : ℕ
deepest = 8

-- the most octets of a codeblock: those of `deepest` words of the greatest length
abbrev pub longest_codeblock : ℕ
longest_codeblock = deepest * longest_word

-- the most symbols that are dropped first
abbrev pub most_skip : ℕ
most_skip = 15

-- the most markers in a row that may be missing
abbrev pub most_fly : ℕ
most_fly = 15

-- the most codeblocks that are repaired at once
abbrev pub most_batch : ℕ
most_batch = 4096

-- the most further markers that must match before a place that is searched for is taken
abbrev pub most_verify : ℕ
most_verify = 7

-- a configuration is its values, all resolved but `invert`
abbrev pub Configuration : Type 0
Configuration = Values

-- the values that are not given: one codeword of the (255,223) code, randomized, in the dual basis,
-- inside the convolutional code of rate 1/2, with no tolerance
abbrev pub default_raw : Raw
default_raw = record {
  code = 16;
  depth = 1;
  length = None;
  inner = 12;
  invert = None;
  randomize = 1;
  basis = 0;
  tolerance = 0;
  repair = None;
  soft = 0;
  start = 0;
  skip = 0;
  workers = 1;
  limit = 2 ^ 32;
  fly = 0;
  keep = 8192;
  ahead = 256;
  phase = 0;
  polarity = 0;
  batch = 32;
  pack = 1;
  verify = 0;
  rescan = 0;
  bad = 0;
}

-- the first of these values that has the number, or another where none has
abbrev pub numbered : {A : Type 0} → (A → ℕ) → List A → A → ℕ → A
numbered number_of [] other number = other
numbered number_of (value ∷ values) other number =
    if number == number_of value then value else numbered number_of values other number

-- E, the symbol errors that a codeword's code corrects, which is its number too; 0 for no code
-- (CCSDS 131.0-B, Reed-Solomon Coding)
abbrev pub correctable : OuterCode → ℕ
correctable Rs16 = most_correctable
correctable Rs8 = least_correctable
correctable Uncoded = 0

abbrev pub is_uncoded : OuterCode → Bool
is_uncoded Rs16 = false
is_uncoded Rs8 = false
is_uncoded Uncoded = true

abbrev pub all_codes : List OuterCode
all_codes = Rs16 ∷ Rs8 ∷ Uncoded ∷ []

abbrev pub code_of : ℕ → OuterCode
code_of = numbered correctable all_codes Uncoded

-- a rate of the convolutional code by its two digits (CCSDS 131.0-B, Convolutional Coding); 0 for
-- no code
abbrev pub number_of_rate : Option Rate → ℕ
number_of_rate None = 0
number_of_rate (Some R12) = 12
number_of_rate (Some R23) = 23
number_of_rate (Some R34) = 34
number_of_rate (Some R56) = 56
number_of_rate (Some R78) = 78

abbrev pub all_rates : List (Option Rate)
all_rates = None ∷ Some R12 ∷ Some R23 ∷ Some R34 ∷ Some R56 ∷ Some R78 ∷ []

abbrev pub rate_of : ℕ → Option Rate
rate_of = numbered number_of_rate all_rates None

-- the numbers of a switch that is off and on
abbrev pub number_of_switch : Bool → ℕ
number_of_switch false = 0
number_of_switch true = 1

abbrev pub all_switches : List Bool
all_switches = false ∷ true ∷ []

abbrev pub is_on : ℕ → Bool
is_on = numbered number_of_switch all_switches false

-- the numbers of the bases, from which `basis_of` of tm_gf256 goes back
abbrev pub number_of_basis : Basis → ℕ
number_of_basis Dual = 0
number_of_basis Poly = 1

abbrev pub all_bases : List Basis
all_bases = Dual ∷ Poly ∷ []

abbrev pub number_of_form : SoftForm → ℕ
number_of_form Unsigned = 0
number_of_form Signed = 1

abbrev pub all_forms : List SoftForm
all_forms = Unsigned ∷ Signed ∷ []

abbrev pub form_of : ℕ → SoftForm
form_of = numbered number_of_form all_forms Unsigned

abbrev pub is_signed : SoftForm → Bool
is_signed Unsigned = false
is_signed Signed = true

abbrev pub number_of_start : Start → ℕ
number_of_start Zero = 0
number_of_start Any = 1

abbrev pub all_starts : List Start
all_starts = Zero ∷ Any ∷ []

abbrev pub start_of : ℕ → Start
start_of = numbered number_of_start all_starts Zero

-- the numbers of a polarity that is given, and of one that is to be found
abbrev pub number_of_sought : Sought → ℕ
number_of_sought Given = 0
number_of_sought Find = 1

abbrev pub all_sought : List Sought
all_sought = Given ∷ Find ∷ []

abbrev pub sought_of : ℕ → Sought
sought_of = numbered number_of_sought all_sought Given

-- the numbers of a phase that is given, that is to be found, and that is to be found and followed
abbrev pub number_of_mode : PhaseMode → ℕ
number_of_mode mode.Given = 0
number_of_mode mode.Find = 1
number_of_mode mode.Follow = 2

abbrev pub all_modes : List PhaseMode
all_modes = mode.Given ∷ mode.Find ∷ mode.Follow ∷ []

abbrev pub mode_of : ℕ → PhaseMode
mode_of = numbered number_of_mode all_modes mode.Given

-- whether the phase is given or to be found, and whether it is followed once it is found
abbrev pub phase_of : PhaseMode → Sought
phase_of mode.Given = Given
phase_of mode.Find = Find
phase_of mode.Follow = Find

abbrev pub is_followed : PhaseMode → Bool
is_followed mode.Given = false
is_followed mode.Find = false
is_followed mode.Follow = true

-- the mode of which the two say this
abbrev pub mode_by : Sought → Bool → PhaseMode
mode_by Given follow = mode.Given
mode_by Find false = mode.Find
mode_by Find true = mode.Follow

abbrev pub is_sought : Sought → Bool
is_sought Given = false
is_sought Find = true

-- the most data octets of a codeword, the longest less its 2E check symbols (CCSDS 131.0-B,
-- Reed-Solomon Coding); the longest codeblock where there is no code
abbrev pub most_data : OuterCode → ℕ
most_data code =
    if is_uncoded code then longest_codeblock else longest_word - 2 * correctable code

-- the values that were given; a frame not given is as long as it can be, a bound of repair not
-- given is E
abbrev pub configuration_of : Raw → Configuration
configuration_of raw = record {
  code = code_of raw.code;
  depth = raw.depth;
  frame_length = unwrap_or raw.length (raw.depth * most_data (code_of raw.code));
  inner = rate_of raw.inner;
  invert = option_map is_on raw.invert;
  randomize = is_on raw.randomize;
  basis = basis_of raw.basis;
  tolerance = raw.tolerance;
  repair = unwrap_or raw.repair (correctable (code_of raw.code));
  soft = form_of raw.soft;
  start = start_of raw.start;
  skip = raw.skip;
  workers = raw.workers;
  limit = raw.limit;
  fly = raw.fly;
  keep = raw.keep;
  ahead = raw.ahead;
  phase = phase_of (mode_of raw.phase);
  follow = is_followed (mode_of raw.phase);
  polarity = sought_of raw.polarity;
  batch = raw.batch;
  pack = is_on raw.pack;
  verify = raw.verify;
  rescan = is_on raw.rescan;
  pass_bad = is_on raw.bad;
}

-- each choice has the number that was given for it
pub record HaveNumbers (raw : Raw) (c : Configuration) : Type 0 where
  pub code : correctable c.code ≡ raw.code
  pub inner : number_of_rate c.inner ≡ raw.inner
  pub invert : option_map number_of_switch c.invert ≡ raw.invert
  pub randomize : number_of_switch c.randomize ≡ raw.randomize
  pub basis : number_of_basis c.basis ≡ raw.basis
  pub soft : number_of_form c.soft ≡ raw.soft
  pub start : number_of_start c.start ≡ raw.start
  pub phase : number_of_mode (mode_by c.phase c.follow) ≡ raw.phase
  pub polarity : number_of_sought c.polarity ≡ raw.polarity
  pub pack : number_of_switch c.pack ≡ raw.pack
  pub rescan : number_of_switch c.rescan ≡ raw.rescan
  pub bad : number_of_switch c.pass_bad ≡ raw.bad

-- the same, but that the phase is found once
abbrev pub unfollowed : Configuration → Configuration
unfollowed c = record c { follow = false }

-- the data octets of one codeword
abbrev pub data_length : Configuration → ℕ
data_length c = c.frame_length / c.depth

-- n, the symbols of one codeword: its data and its 2E check symbols
abbrev pub word_length : Configuration → ℕ
word_length c = data_length c + 2 * correctable c.code

-- the octets of a codeblock, which interleaves as many codewords as the depth says
abbrev pub codeblock_length : Configuration → ℕ
codeblock_length c = c.depth * word_length c
