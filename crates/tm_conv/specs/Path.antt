-- Code paths and their symbols (CCSDS 131.0-B, Convolutional Coding). Bits and symbols are the
-- numbers 0 and 1. A register is the number whose binary digits are the six bits before a step,
-- from u[t-1] of weight 32 to u[t-6] of weight 1.
use Rattle.std.specs.Prelude.{ℕ, zero, suc, ◌+◌, ◌*◌, ◌/◌, ◌%◌, ◌^◌, ◌-◌, ◌<◌, ◌==◌, Bool, if◌then◌else◌, List, [], ◌∷◌, ◌++◌, length, slice_index, map, All}
use Rattle.tm_conv.specs.declared.rates.Rate.{Rate}
use Rattle.tm_conv.specs.declared.rates.Rate.TheVariants.{R12, R23, R34, R56, R78}

-- how many bits a register has
abbrev pub register_size : ℕ
register_size = 6

-- how many registers there are
abbrev pub registers : ℕ
registers = 64

-- each number is a bit
abbrev pub AreBits : List ℕ → Type 0
AreBits bits = All (λ bit. bit < 2) bits

-- each bit complemented
abbrev pub complement : List ℕ → List ℕ
complement bits = map (λ bit. 1 - bit) bits

-- the register after a bit: the bit comes in at the top, and the oldest goes out
abbrev pub next_register : ℕ → ℕ → ℕ
next_register register bit = register / 2 + 32 * bit

-- the first sum of a step, u[t] + u[t-1] + u[t-2] + u[t-3] + u[t-6] modulo 2
abbrev pub c1 : ℕ → ℕ → ℕ
c1 register bit = (bit + register / 32 + register / 16 + register / 8 + register) % 2

-- the second sum of a step, u[t] + u[t-2] + u[t-3] + u[t-5] + u[t-6] modulo 2
abbrev pub c2 : ℕ → ℕ → ℕ
c2 register bit = (bit + register / 16 + register / 8 + register / 2 + register) % 2

-- the puncture pattern of the first sum, a period of steps: 1 where it is sent
abbrev pub c1_pattern : Rate → List ℕ
c1_pattern R12 = 1 ∷ []
c1_pattern R23 = 1 ∷ 0 ∷ []
c1_pattern R34 = 1 ∷ 0 ∷ 1 ∷ []
c1_pattern R56 = 1 ∷ 0 ∷ 1 ∷ 0 ∷ 1 ∷ []
c1_pattern R78 = 1 ∷ 0 ∷ 0 ∷ 0 ∷ 1 ∷ 0 ∷ 1 ∷ []

-- the puncture pattern of the second sum
abbrev pub c2_pattern : Rate → List ℕ
c2_pattern R12 = 1 ∷ []
c2_pattern R23 = 1 ∷ 1 ∷ []
c2_pattern R34 = 1 ∷ 1 ∷ 0 ∷ []
c2_pattern R56 = 1 ∷ 1 ∷ 0 ∷ 1 ∷ 0 ∷ []
c2_pattern R78 = 1 ∷ 1 ∷ 1 ∷ 1 ∷ 0 ∷ 1 ∷ 0 ∷ []

-- how many steps a pattern has
abbrev pub period : Rate → ℕ
period rate = length (c1_pattern rate)

-- the most steps of a pattern
abbrev pub most_period : ℕ
most_period = 7

-- whether a pattern has step t sent
abbrev pub is_kept : List ℕ → ℕ → Bool
is_kept pattern t = slice_index pattern (t % length pattern) == 1

abbrev pub keeps_c1 : Rate → ℕ → Bool
keeps_c1 rate t = is_kept (c1_pattern rate) t

abbrev pub keeps_c2 : Rate → ℕ → Bool
keeps_c2 rate t = is_kept (c2_pattern rate) t

-- the second sum as it is sent, complemented where inversion is on
abbrev pub sent_c2 : Bool → ℕ → ℕ
sent_c2 invert sum = if invert then 1 - sum else sum

-- what step t sends of two sums, the first before the second
abbrev pub sent : Rate → Bool → ℕ → ℕ → ℕ → List ℕ
sent rate invert t first second =
    (if keeps_c1 rate t then first ∷ [] else [])
    ++ (if keeps_c2 rate t then sent_c2 invert second ∷ [] else [])

-- the symbols of step t, from a register by a bit
abbrev pub step_symbols : Rate → Bool → ℕ → ℕ → ℕ → List ℕ
step_symbols rate invert t register bit = sent rate invert t (c1 register bit) (c2 register bit)

-- how many symbols step t sends
abbrev pub step_size : Rate → ℕ → ℕ
step_size rate t = (if keeps_c1 rate t then 1 else 0) + (if keeps_c2 rate t then 1 else 0)

-- how many symbols the next `count` steps send, from step t on
unfoldable pub steps_size : Rate → ℕ → ℕ → ℕ
steps_size rate t zero = 0
steps_size rate t (suc count) = step_size rate t + steps_size rate (t + 1) count

-- the farthest step up to which symbols are counted
abbrev pub farthest_step : ℕ
farthest_step = 2 ^ 62

-- the symbols of a path: from a register at step t, by these bits
abbrev pub path : Rate → Bool → ℕ → ℕ → List ℕ → List ℕ
path rate invert t register [] = []
path rate invert t register (bit ∷ bits) =
    step_symbols rate invert t register bit ++ path rate invert (t + 1)
    (next_register register bit) bits

-- the register after these bits
abbrev pub register_after : ℕ → List ℕ → ℕ
register_after register [] = register
register_after register (bit ∷ bits) = register_after (next_register register bit) bits
