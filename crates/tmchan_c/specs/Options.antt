-- The values of the options, as a program in C passes them: numbers, in the order of the options.
use Rattle.std.specs.Prelude.{ℕ, ◌-◌, ◌^◌, ◌==◌, Bool, List, [], ◌∷◌, length, take, get_or, Option, Some, None, unwrap_or, if◌then◌else◌}
use Rattle.std.specs.List.{list_all}
use Rattle.tm_buffers.specs.Buffer.{over}
use Rattle.tm_config.specs.Configuration.{Configuration, configuration_of, default_raw}
use Rattle.tm_config.specs.declared.values.Raw.{Raw}

-- what stands for a value that is not given: the greatest number
abbrev pub not_given : ℕ
not_given = 2 ^ 64 - 1

abbrev pub given : ℕ → Option ℕ
given value = if value == not_given then None else Some value

-- numbers are written to the start of an array, as many as it has
abbrev pub set_in : List ℕ → List ℕ → List ℕ
set_in array numbers = over (take (length array) numbers) array

-- the numbers of all options
abbrev pub numbers_of : Raw → List ℕ
numbers_of raw =
    raw.code ∷ raw.depth ∷ unwrap_or raw.length not_given ∷ raw.inner
    ∷ unwrap_or raw.invert not_given ∷ raw.randomize ∷ raw.basis ∷ raw.tolerance
    ∷ unwrap_or raw.repair not_given ∷ raw.soft ∷ raw.start ∷ raw.skip ∷ raw.workers ∷ raw.limit
    ∷ raw.fly ∷ raw.keep ∷ raw.ahead ∷ raw.phase ∷ raw.polarity ∷ raw.batch ∷ raw.pack
    ∷ raw.verify ∷ raw.rescan ∷ raw.bad ∷ []

-- and the options that have these numbers
abbrev pub raw_by : List ℕ → Raw
raw_by numbers = record {
  code = get_or numbers 0 0;
  depth = get_or numbers 1 0;
  length = given (get_or numbers 2 0);
  inner = get_or numbers 3 0;
  invert = given (get_or numbers 4 0);
  randomize = get_or numbers 5 0;
  basis = get_or numbers 6 0;
  tolerance = get_or numbers 7 0;
  repair = given (get_or numbers 8 0);
  soft = get_or numbers 9 0;
  start = get_or numbers 10 0;
  skip = get_or numbers 11 0;
  workers = get_or numbers 12 0;
  limit = get_or numbers 13 0;
  fly = get_or numbers 14 0;
  keep = get_or numbers 15 0;
  ahead = get_or numbers 16 0;
  phase = get_or numbers 17 0;
  polarity = get_or numbers 18 0;
  batch = get_or numbers 19 0;
  pack = get_or numbers 20 0;
  verify = get_or numbers 21 0;
  rescan = get_or numbers 22 0;
  bad = get_or numbers 23 0;
}

-- of the options that a program lacks the defaults hold
abbrev pub raw_of : List ℕ → Raw
raw_of options = raw_by (set_in (numbers_of default_raw) options)

-- the configuration that they give
abbrev pub configuration : List ℕ → Configuration
configuration options = configuration_of (raw_of options)

abbrev pub are_zero : List ℕ → Bool
are_zero numbers = list_all (λ number. number == 0) numbers

-- for a recording: it begins anywhere, has noise before it, slips and turns over; windows are short
-- at rate 1/2, and have the default's length at the others
abbrev pub recording_of : Raw → Raw
recording_of raw = record raw {
  tolerance = 3;
  start = 1;
  fly = 1;
  keep = if raw.inner == 12 then 128 else default_raw.keep;
  ahead = if raw.inner == 12 then 64 else default_raw.ahead;
  phase = 2;
  polarity = 1;
  verify = 0;
  rescan = 1;
}
