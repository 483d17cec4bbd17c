-- Which values are accepted, and why others are refused.
use Rattle.std.specs.Prelude.{◌≡◌, ℕ, ◌*◌, ◌/◌, ◌%◌, ◌≤◌, ◌==◌, ◌&&◌, Bool, true, false, nat_le}
use Rattle.std.specs.Prelude.{List, [], ◌∷◌, Option, Some, None, codes, if◌then◌else◌}
use Rattle.std.specs.List.{list_any}
use Rattle.tm_base.specs.Limits.{most_workers, most_limit}
use Rattle.tm_base.specs.Marker.{most_tolerance}
use Rattle.tm_viterbi.specs.WindowSizes.{least_keep, most_keep, most_ahead}
use Rattle.tm_config.specs.Configuration.{deepest, most_skip, most_fly, most_batch, most_verify}
use Rattle.tm_config.specs.Configuration.{Configuration, data_length, most_data}
use Rattle.tm_config.specs.Configuration.{correctable, is_uncoded, all_codes, code_of}
use Rattle.tm_config.specs.Configuration.{number_of_rate, all_rates, number_of_switch, all_switches}
use Rattle.tm_config.specs.Configuration.{number_of_basis, all_bases, number_of_form, all_forms}
use Rattle.tm_config.specs.Configuration.{number_of_start, all_starts, number_of_mode, all_modes}
use Rattle.tm_config.specs.Configuration.{number_of_sought, all_sought}
use Rattle.tm_config.specs.declared.values.Raw.{Raw}
use Rattle.tm_config.specs.declared.values.OuterCode.TheVariants.{Uncoded}
use Rattle.tm_config.specs.declared.error.ConfigError.{ConfigError}
use Rattle.tm_config.specs.declared.error.ConfigError.TheVariants.{Code, Depth, Length, Inner, Switch, Basis, Tolerance}
use Rattle.tm_config.specs.declared.error.ConfigError.TheVariants.{Repair, Soft, Start, Skip, Workers, Limit, Fly}
use Rattle.tm_config.specs.declared.error.ConfigError.TheVariants.{Keep, Ahead, Phase, Polarity, Batch, Pack, Verify, Rescan, Bad}

-- each value is within its range; the others are choices, and any of them is accepted
pub record IsAccepted (c : Configuration) : Type 0 where
  pub some_depth : 1 ≤ c.depth
  pub depth : c.depth ≤ deepest
  pub no_depth : c.code ≡ Uncoded → c.depth ≡ 1
  -- the frame is whole columns of data
  pub whole : c.frame_length ≡ c.depth * data_length c
  pub some_data : 1 ≤ data_length c
  pub data_fits : data_length c ≤ most_data c.code
  pub tolerance : c.tolerance ≤ most_tolerance
  pub repair : c.repair ≤ correctable c.code
  pub skip : c.skip ≤ most_skip
  pub some_workers : 1 ≤ c.workers
  pub workers : c.workers ≤ most_workers
  pub some_limit : 1 ≤ c.limit
  pub limit : c.limit ≤ most_limit
  pub fly : c.fly ≤ most_fly
  pub some_keep : least_keep ≤ c.keep
  pub keep : c.keep ≤ most_keep
  pub ahead : c.ahead ≤ most_ahead
  pub some_batch : 1 ≤ c.batch
  pub batch : c.batch ≤ most_batch
  pub verify : c.verify ≤ most_verify

-- the value is one of a list
abbrev pub is_listed : ℕ → List ℕ → Bool
is_listed value values = list_any (λ listed. value == listed) values

-- one of these has the number
abbrev pub is_number : {A : Type 0} → (A → ℕ) → List A → ℕ → Bool
is_number number_of values number = list_any (λ value. number == number_of value) values

-- the value is at least the one and at most the other
abbrev pub is_within : ℕ → ℕ → ℕ → Bool
is_within least most value = nat_le least value && nat_le value most

-- an option that is not given fits, and else its value has to
abbrev pub fits_if_given : (ℕ → Bool) → Option ℕ → Bool
fits_if_given fits None = true
fits_if_given fits (Some value) = fits value

-- an interleaving depth of the standard (CCSDS 131.0-B, Reed-Solomon Coding); 1 alone where there
-- is no code
abbrev pub depth_fits : Raw → Bool
depth_fits raw =
    if is_uncoded (code_of raw.code)
    then raw.depth == 1
    else is_listed raw.depth (1 ∷ 2 ∷ 3 ∷ 4 ∷ 5 ∷ deepest ∷ [])

-- the frame fills as many codewords as the depth says, each with at least one data octet and no
-- more than it holds
abbrev pub length_fits : Raw → Bool
length_fits raw = fits_if_given (λ length. (length % raw.depth == 0)
    && is_within 1 (most_data (code_of raw.code)) (length / raw.depth)) raw.length

abbrev pub switch_fits : ℕ → Bool
switch_fits = is_number number_of_switch all_switches

abbrev pub switches_fit : Raw → Bool
switches_fit raw = fits_if_given switch_fits raw.invert && switch_fits raw.randomize

abbrev pub sought_fits : ℕ → Bool
sought_fits = is_number number_of_sought all_sought

-- no more symbols are repaired than the code corrects
abbrev pub repair_fits : Raw → Bool
repair_fits raw =
    fits_if_given (λ repair. nat_le repair (correctable (code_of raw.code))) raw.repair

-- the test of each option, in the order in which they are tried, with the error of one that fails
abbrev pub tests : Raw → List (Bool × ConfigError)
tests raw =
    (is_number correctable all_codes raw.code, Code)
    ∷ (depth_fits raw, Depth)
    ∷ (length_fits raw, Length)
    ∷ (is_number number_of_rate all_rates raw.inner, Inner)
    ∷ (switches_fit raw, Switch)
    ∷ (is_number number_of_basis all_bases raw.basis, Basis)
    ∷ (nat_le raw.tolerance most_tolerance, Tolerance)
    ∷ (repair_fits raw, Repair)
    ∷ (is_number number_of_form all_forms raw.soft, Soft)
    ∷ (is_number number_of_start all_starts raw.start, Start)
    ∷ (nat_le raw.skip most_skip, Skip)
    ∷ (is_within 1 most_workers raw.workers, Workers)
    ∷ (is_within 1 most_limit raw.limit, Limit)
    ∷ (nat_le raw.fly most_fly, Fly)
    ∷ (is_within least_keep most_keep raw.keep, Keep)
    ∷ (nat_le raw.ahead most_ahead, Ahead)
    ∷ (is_number number_of_mode all_modes raw.phase, Phase)
    ∷ (sought_fits raw.polarity, Polarity)
    ∷ (is_within 1 most_batch raw.batch, Batch)
    ∷ (switch_fits raw.pack, Pack)
    ∷ (nat_le raw.verify most_verify, Verify)
    ∷ (switch_fits raw.rescan, Rescan)
    ∷ (switch_fits raw.bad, Bad)
    ∷ []

-- the error of the first test that fails
abbrev pub first_error : List (Bool × ConfigError) → Option ConfigError
first_error [] = None
first_error ((true, error) ∷ rest) = first_error rest
first_error ((false, error) ∷ rest) = Some error

-- the error of the first value that is outside its list or range, or none
unfoldable pub refusal_of_raw : Raw → Option ConfigError
refusal_of_raw raw = first_error (tests raw)

-- the names of the options
abbrev pub name_of : ConfigError → List ℕ
name_of Code = codes "code"
name_of Depth = codes "depth"
name_of Length = codes "length"
name_of Inner = codes "inner"
name_of Switch = codes "switch"
name_of Basis = codes "basis"
name_of Tolerance = codes "tolerance"
name_of Repair = codes "repair"
name_of Soft = codes "soft"
name_of Start = codes "start"
name_of Skip = codes "skip"
name_of Workers = codes "workers"
name_of Limit = codes "limit"
name_of Fly = codes "fly"
name_of Keep = codes "keep"
name_of Ahead = codes "ahead"
name_of Phase = codes "phase"
name_of Polarity = codes "polarity"
name_of Batch = codes "batch"
name_of Pack = codes "pack"
name_of Verify = codes "verify"
name_of Rescan = codes "rescan"
name_of Bad = codes "bad"

-- their places in the order of the tests
abbrev pub place_of : ConfigError → ℕ
place_of Code = 0
place_of Depth = 1
place_of Length = 2
place_of Inner = 3
place_of Switch = 4
place_of Basis = 5
place_of Tolerance = 6
place_of Repair = 7
place_of Soft = 8
place_of Start = 9
place_of Skip = 10
place_of Workers = 11
place_of Limit = 12
place_of Fly = 13
place_of Keep = 14
place_of Ahead = 15
place_of Phase = 16
place_of Polarity = 17
place_of Batch = 18
place_of Pack = 19
place_of Verify = 20
place_of Rescan = 21
place_of Bad = 22
