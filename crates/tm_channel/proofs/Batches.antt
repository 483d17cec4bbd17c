-- How many items are due: those in whole batches.
use Rattle.std.proofs.Common.{◌≡◌, ◌+◌, ◌-◌, ◌*◌, ◌/◌, ◌%◌, ◌<◌, ◌≤◌, ℕ, suc, Bool, List, length, ap, ◌∙◌, arith}
use Rattle.std.proofs.Math.Nat.{div-add-mod, mul-div-le, mul-mod_right, mul-suc, mul_comm}
use Rattle.std.proofs.lemmas.List.{length-take-le}
use Rattle.std.proofs.lemmas.Nat.{div-mul-add}
use Rattle.tm_config.specs.Configuration.{Configuration}
use Rattle.tm_codeblock.specs.ReceivedCodeblock.{places_in}
use Rattle.tm_channel.specs.Due.{in_batches, due_count, due}

pub batches-le : (size n : ℕ) → in_batches size n ≤ n
batches-le size n = mul-div-le n size

-- after whole batches stand fewer than one
pub not_full : (size m n : ℕ) → in_batches size m ≤ n → n - in_batches size m < size
    → in_batches size n ≡ in_batches size m
not_full size m n least few =
    let count = m / size in
    let parts : n ≡ count * size + (n - size * count) = omega (arith, least, mul_comm count size) in
    ap (λ k. size * k) (ap (λ k. k / size) parts ∙ div-mul-add count size (n - size * count) few)

-- just one
pub full : (size m n : ℕ) → in_batches size m ≤ n → n - in_batches size m ≡ size → in_batches size n ≡ n
full size m n least all =
    let parts : n ≡ size * suc (m / size) = omega (arith, least, all, mul-suc size (m / size)) in
    let none : n % size ≡ 0 = ap (λ k. k % size) parts ∙ mul-mod_right size (suc (m / size)) in
    omega (arith, none, div-add-mod n size)

pub length-due : (c : Configuration) (bits : List Bool) → length (due c bits) ≡ due_count c bits
length-due c bits =
    let all = places_in c bits in length-take-le (due_count c bits) all (batches-le c.batch (length all))
