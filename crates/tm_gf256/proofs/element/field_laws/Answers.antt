use Rattle.std.proofs.Common.{◌≡◌, ◌<◌}
use Rattle.std.specs.Int.Bits.{xor_comm}
use Rattle.tm_gf256.proofs.Ring.{plus-lt, times-lt, times-comm, times-assoc, times-plus, times-one, inverse, inverse-lt, times-inverse, log_power, power_apart, power-255}
use Rattle.tm_gf256.specs.Field.{power}
use Rattle.tm_gf256.proofs.Tests.{log_of}
use Rattle.tm_gf256.proofs.element.field_laws.Goals as goal

pub returns-clause-sum_is_element : goal.returns-clause-sum_is_element
returns-clause-sum_is_element c = plus-lt

pub returns-clause-sum_commutes : goal.returns-clause-sum_commutes
returns-clause-sum_commutes c = xor_comm

pub returns-clause-product_is_element : goal.returns-clause-product_is_element
returns-clause-product_is_element c = times-lt

pub returns-clause-product_commutes : goal.returns-clause-product_commutes
returns-clause-product_commutes c = times-comm

pub returns-clause-product_associates : goal.returns-clause-product_associates
returns-clause-product_associates c = times-assoc

pub returns-clause-distributes : goal.returns-clause-distributes
returns-clause-distributes c = times-plus

pub returns-clause-one_is_neutral : goal.returns-clause-one_is_neutral
returns-clause-one_is_neutral c = times-one

pub returns-clause-has_inverse : goal.returns-clause-has_inverse
returns-clause-has_inverse c a h ne = (inverse a, inverse-lt a, times-inverse a h ne)

pub returns-clause-powers_are_all : goal.returns-clause-powers_are_all
returns-clause-powers_are_all c a h ne =
    let p : (log_of a < 255) × (power 2 (log_of a) ≡ a) = log_power a h ne in (log_of a, p.0, p.1)

pub returns-clause-powers_differ : goal.returns-clause-powers_differ
returns-clause-powers_differ c = power_apart

pub returns-clause-powers_repeat : goal.returns-clause-powers_repeat
returns-clause-powers_repeat c = power-255
