-- How long the frames, the codewords and the codeblocks of an accepted configuration are.
use Rattle.std.proofs.Common.{◌≡◌, ◌≢◌, ◌∙◌, inl, inr, ap, sym, ℕ, ◌+◌, ◌*◌, ◌≤◌, refl, arith}
use Rattle.std.proofs.Math.Nat.{mul-le-mul, mul-add}
use Rattle.tm_rs_code.specs.Code.{longest_word}
use Rattle.tm_config.specs.Configuration.{longest_codeblock}
use Rattle.tm_config.specs.declared.values.OuterCode.{OuterCode}
use Rattle.tm_config.specs.declared.values.OuterCode.TheVariants.{Rs16, Rs8, Uncoded}
use Rattle.tm_config.specs.Configuration.{Configuration, data_length, word_length, codeblock_length, most_data, correctable}
use Rattle.tm_config.specs.Accepted.{IsAccepted}
use Rattle.tm_config.proofs.Choices.{uncoded_cases}

word-le : (code : OuterCode) (octets : ℕ) → code ≢ Uncoded → octets ≤ most_data code
    → octets + 2 * correctable code ≤ longest_word
word-le Rs16 octets some_code fits = omega arith
word-le Rs8 octets some_code fits = omega arith
word-le Uncoded octets some_code fits = absurd (some_code refl)

-- with a code, a codeword has at most 255 symbols
pub word_length-le : (c : Configuration) → IsAccepted c → c.code ≢ Uncoded → word_length c ≤ longest_word
word_length-le c accepted some_code = word-le c.code (data_length c) some_code accepted.data_fits

-- a codeblock is the frame and the check symbols of its codewords
pub codeblock_length-is : (c : Configuration) → IsAccepted c
    → codeblock_length c ≡ c.frame_length + c.depth * (2 * correctable c.code)
codeblock_length-is c accepted =
    mul-add c.depth (data_length c) (2 * correctable c.code)
    ∙ ap (λ n. n + c.depth * (2 * correctable c.code)) (sym accepted.whole)

without_code : (depth octets : ℕ) (code : OuterCode) → depth ≡ 1 → code ≡ Uncoded → octets ≤ most_data code
    → depth * (octets + 2 * correctable code) ≤ longest_codeblock
without_code depth octets Rs16 one none fits = cc
without_code depth octets Rs8 one none fits = cc
without_code depth octets Uncoded one none fits = rw one (omega arith)

-- a codeblock has at most 2,040 octets
pub codeblock_length-le : (c : Configuration) → IsAccepted c → codeblock_length c ≤ longest_codeblock
codeblock_length-le c accepted =
    elim (uncoded_cases c.code) [
      | inl none ↦ without_code c.depth (data_length c) c.code (accepted.no_depth none.1) none.1 accepted.data_fits
      | inr some ↦ mul-le-mul accepted.depth (word_length-le c accepted some.1)
    ]
