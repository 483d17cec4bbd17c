-- What is seen of a window when its octets end at a stage, or between two.
use Rattle.std.proofs.Common.{◌≡◌, ℕ, ◌+◌, ◌<◌, ◌≤◌, true, List, [], length, take, drop, refl, ap, arith, ltb, ◌⊎◌}
use Rattle.std.proofs.lemmas.Bool.Decides.{nat_tests, Decides-by_and, Decides-ltb}
use Rattle.std.specs.Bool.{Decides}
use Rattle.std.proofs.lemmas.List.Elements.{All-take}
use Rattle.tm_conv.specs.Path.{AreBits, steps_size}
use Rattle.tm_conv.proofs.Sizes.{steps_size-le}
use Rattle.tm_cert_file.specs.declared.seen.Next.{Next}
use Rattle.tm_cert_file.specs.declared.seen.Seen.TheVariants.{More}
use Rattle.tm_cert_file.specs.Window.{steps_in, kept_in, start_in, bits_in}
use Rattle.tm_cert_file.specs.Before.{Rules, Before}
use Rattle.tm_cert_file.specs.Seen.{is_due, has_shape, are_bits, IsSeen}
use Rattle.tm_cert_file.specs.Reading.{Reading, HasPassed}
use Rattle.tm_cert_file.proofs.Stages.{shape_of, Holds, Holds-from_none, no_octets}

-- ---- the numbers of a window

pub record Shaped (rules : Rules) (next : Next) (steps kept start : ℕ) : Type 0 where
  pub some : 0 < steps
  pub most : steps ≤ rules.keep + rules.ahead
  pub keeps : (kept ≡ steps) ⊎ ((kept ≡ rules.keep) × (steps ≡ rules.keep + rules.ahead))
  pub kept_within : kept ≤ steps
  pub rest : steps ≤ kept + rules.ahead
  pub register : start < 64
  pub enough : is_due next ≡ true → rules.ahead < steps

pub Shaped-from_shape : (rules : Rules) (before : Before) (octets : List ℕ) → shape_of rules before octets ≡ true
    → Shaped rules before.next (steps_in octets) (kept_in octets) (start_in octets)
unfolding shape_of
Shaped-from_shape rules before octets e =
    by rules before.next (steps_in octets) (kept_in octets) (start_in octets) e
  where
    by : (rules : Rules) (next : Next) (steps kept start : ℕ) → has_shape rules next steps kept start ≡ true
        → Shaped rules next steps kept start
    by rules next steps kept start e = grind (arith, nat_tests)

-- nothing is seen of no octets
pub seen_none : (rules : Rules) (before : Before) (octets : List ℕ) → octets ≡ [] → IsSeen rules before octets More
seen_none rules before octets none = (no_octets rules before octets (omega (arith, ap length none)), omega (arith, ap length none))

pub are_bits-decides : (bits : List ℕ) → Decides (are_bits bits) (AreBits bits)
are_bits-decides bits = Decides-by_and (λ bit. ltb bit 2) (λ bit. bit < 2) are_bits (λ bit. Decides-ltb bit 2) refl (λ _ _. refl) bits

-- the same of what is equal
pub same_part : (held octets : List ℕ) (from from' width count : ℕ) → held ≡ octets → from ≡ from' → width ≡ count
    → take width (drop from held) ≡ take count (drop from' octets)
same_part held octets from from' width count a b c = λ i. take (c i) (drop (b i) (a i))

-- ---- a window that passed

module _ (s : Reading) (passed : HasPassed s) where
  passed_holds : Holds s.rules s.before s.octets
  passed_holds = Holds-from_none s.rules s.before s.octets passed.passed.right

  pub passed_shape : Shaped s.rules s.before.next (steps_in s.octets) (kept_in s.octets) (start_in s.octets)
  passed_shape = Shaped-from_shape s.rules s.before s.octets (passed_holds.shape (omega (arith, passed.just)))

  pub passed_kept : steps_size s.rules.rate s.before.t (kept_in s.octets)
      ≤ steps_size s.rules.rate s.before.t (steps_in s.octets)
  passed_kept = steps_size-le s.rules.rate s.before.t (kept_in s.octets) (steps_in s.octets) passed_shape.kept_within

  pub passed_bits : AreBits (take (kept_in s.octets) (bits_in s.octets))
  passed_bits =
      All-take (λ bit. bit < 2) (kept_in s.octets) (bits_in s.octets)
      ((are_bits-decides (bits_in s.octets)).0 (passed_holds.bits (omega (arith, passed.just))))
