-- When a call is refused, what that promises, and the numbers that calls answer.
use Rattle.std.specs.Prelude.{◌≡◌, ℕ, ◌+◌, ◌*◌, ◌==◌, ℤ, pos, negsuc, List, [], ◌∷◌, length, drop, Option, Some, None, Bool, option_map, nat_lt, nat_le, if◌then◌else◌}
use Rattle.tm_rs_code.specs.Code.{longest_word}
use Rattle.tm_config.specs.Accepted.{is_number, is_within, place_of, refusal_of_raw}
use Rattle.tm_config.specs.Configuration.{correctable, default_raw, number_of_basis, all_bases}
use Rattle.tm_config.specs.declared.error.ConfigError.TheVariants.{Code, Length, Basis, Repair}
use Rattle.tm_config.specs.declared.values.OuterCode.TheVariants.{Rs16, Rs8}
use Rattle.tm_config.specs.declared.values.Raw.{Raw}
use Rattle.tmchan_c.specs.declared.refusal.Refusal.{Refusal}
use Rattle.tmchan_c.specs.declared.refusal.Refusal.TheVariants.{Room, Flags, Column, Closed, Open, Memory, Config, Value}
use Rattle.tmchan_c.specs.Options.{are_zero, numbers_of, raw_of}

-- the answer of a call that is refused: where the value of an option is outside its list or range
-- -16 for the first option, and on in their order
abbrev pub refused : Refusal → ℤ
refused Room = negsuc 1
refused Flags = negsuc 2
refused Column = negsuc 3
refused Closed = negsuc 4
refused Open = negsuc 5
refused Memory = negsuc 6
refused Config = negsuc 7
refused (Value error) = negsuc (15 + place_of error)

-- the answer of a call that does nothing else than succeed or be refused
abbrev pub answered : Option Refusal → ℤ
answered None = pos 0
answered (Some refusal) = refused refusal

-- the answer of a call that answers a number: a reason to refuse it, or that there is not the room,
-- or the number
abbrev pub number_answer : Option Refusal → Option ℕ → ℤ
number_answer (Some refusal) number = refused refusal
number_answer None None = refused Room
number_answer None (Some number) = pos number

-- a call that there is a reason to refuse answers that, and leaves all as it was
abbrev pub Refuses : Option Refusal → ℤ → Type 0 → Type 0
Refuses refusal answer unchanged =
    (reason : Refusal) → refusal ≡ Some reason → (answer ≡ refused reason) × unchanged

-- a reason to refuse a call where this does not hold, or else the first of those after it
abbrev pub unless : Bool → Refusal → Option Refusal → Option Refusal
unless fits reason after = if fits then after else Some reason

-- the reason to refuse the values of options: the first that is outside its list or range, or none
abbrev pub values_refusal : Raw → Option Refusal
values_refusal raw = option_map (λ error. Value error) (refusal_of_raw raw)

-- the same of the options that a program passes: first that a number behind those that there are is
-- not 0
abbrev pub config_refusal : List ℕ → Option Refusal
config_refusal options = unless (are_zero (drop (length (numbers_of default_raw)) options)) Config
    (values_refusal (raw_of options))

-- the first reason to refuse a word of n symbols of the code that corrects this many, or else the
-- one that comes after these, or none
abbrev pub word_refusal : ℕ → ℕ → ℕ → ℕ → Option Refusal → Option Refusal
word_refusal code n basis repair after =
    unless (is_number correctable (Rs16 ∷ Rs8 ∷ []) code) (Value Code)
    (unless (is_within (2 * code + 1) longest_word n) (Value Length)
    (unless (is_number number_of_basis all_bases basis) (Value Basis)
    (unless (nat_le repair code) (Value Repair) after)))

-- the first reason to refuse `info` information octets and `checks` check octets, or none
abbrev pub encode_refusal : ℕ → ℕ → ℕ → ℕ → Option Refusal
encode_refusal code basis info checks = word_refusal code (info + 2 * code) basis 0
    (unless (checks == 2 * code) Room None)

-- the first reason to refuse a word of n octets, or none
abbrev pub decode_refusal : ℕ → ℕ → ℕ → ℕ → Option Refusal
decode_refusal code basis repair n = word_refusal code n basis repair None

-- the first reason to refuse a word of n octets with `flags` flags, or none
abbrev pub erased_refusal : ℕ → ℕ → ℕ → ℕ → ℕ → Option Refusal
erased_refusal code basis repair n flags =
    word_refusal code n basis repair (unless (flags == n) Flags None)

-- the first reason to refuse a column of a block, or a word of another size, or none
abbrev pub column_refusal : ℕ → ℕ → ℕ → ℕ → Option Refusal
column_refusal depth column block word =
    unless (nat_lt column depth) Column (unless (block == depth * word) Room None)
