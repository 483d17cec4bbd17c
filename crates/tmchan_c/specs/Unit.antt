-- The channel access data unit of a frame, by the numbers that a call is given.
use Rattle.std.specs.Prelude.{ℕ, ◌==◌, Option, Some, None}
use Rattle.std.specs.Option.{option_or}
use Rattle.tm_codeblock.specs.Cadu.{unit_size}
use Rattle.tm_config.specs.Configuration.{configuration_of, default_raw}
use Rattle.tm_config.specs.declared.values.Raw.{Raw}
use Rattle.tmchan_c.specs.Refusal.{unless, values_refusal}
use Rattle.tmchan_c.specs.declared.refusal.Refusal.{Refusal}
use Rattle.tmchan_c.specs.declared.refusal.Refusal.TheVariants.{Room}

-- the values of the options: those that were given, and else the defaults
abbrev pub unit_raw : ℕ → ℕ → ℕ → ℕ → ℕ → Raw
unit_raw code depth basis randomize frame =
    record default_raw {
      code = code;
      depth = depth;
      length = Some frame;
      randomize = randomize;
      basis = basis;
    }

-- the first reason to refuse these values and a buffer of `room` octets, or none
abbrev pub unit_refusal : Raw → ℕ → Option Refusal
unit_refusal raw room = option_or (values_refusal raw)
    (unless (room == unit_size (configuration_of raw)) Room None)
