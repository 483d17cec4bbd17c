-- One step at rate 1/2.
use Rattle.std.proofs.Common.{◌≡◌, ℕ, ◌≤◌, length, refl, sym, subst}
use Rattle.tm_conv.specs.declared.rates.Rate.TheVariants.{R12}
use Rattle.tm_conv.specs.Path.{steps_size}
use Rattle.tm_path_cert.specs.Claim.{Claim}

pub one_step : steps_size R12 0 1 ≡ 2
unfolding steps_size
one_step = refl

pub no_step : steps_size R12 0 0 ≡ 0
unfolding steps_size
no_step = refl

pub room : (claim known : Claim) (count n : ℕ) → claim ≡ known → count ≡ n
    → steps_size known.rate known.first n ≤ length known.soft
    → steps_size claim.rate claim.first count ≤ length claim.soft
room claim known count n e f h =
    let P : Claim → Type 0 = λ v. steps_size v.rate v.first count ≤ length v.soft in
    let Q : ℕ → Type 0 = λ v. steps_size known.rate known.first v ≤ length known.soft in
    subst P (sym e) (subst Q (sym f) h)

pub room_end : (claim known : Claim) → claim ≡ known → length known.soft ≡ steps_size known.rate known.first 1
    → length claim.soft ≡ steps_size claim.rate claim.first 1
room_end claim known e h =
    let P : Claim → Type 0 = λ v. length v.soft ≡ steps_size v.rate v.first 1 in
    subst P (sym e) h
