-- Octets come to no more bits than they have.
use Rattle.std.proofs.Common.{ℕ, ◌≡◌, ◌+◌, ◌-◌, ◌*◌, ◌≤◌, ◌==◌, refl, sym, List, [], ◌∷◌, ◌++◌, length, drop, map, ap, subst, arith, Option, Some, None, length-drop}
use Rattle.std.proofs.lemmas.List.{length-map}
use Rattle.tm_config.specs.Configuration.{Configuration}
use Rattle.tm_conv.specs.declared.rates.Rate.{Rate}
use Rattle.tm_viterbi.specs.WindowBlock.{WindowBlock}
use Rattle.tm_viterbi.specs.Clean.{kept_bits}
use Rattle.tm_windows.specs.Windows.{AreDueIn, AreFirstIn}
use Rattle.tm_windows.proofs.FollowedOnce.{followed-no_due}
use Rattle.tm_inner.specs.Inner.{windows_of, soft_value, soft_octets, BlocksAt, DueAt, plain_bits, bits_at, AreInnerBlocks, AreInnerDue, inner_bits}
use Rattle.tm_inner.specs.Receiving.{FirstAt, AreInnerFirst}
use Rattle.tm_inner.proofs.DueBits.{soft-more}
use Rattle.tm_inner.proofs.ReceivedBits.{length-soft}
use Rattle.tm_inner.proofs.PlainBits.{plain-few}
use Rattle.tm_inner.proofs.FollowedBits.{followed-few, followed-whole_few, followed-more_few, followed-last_few}

few-first : (rate : Option Rate) (c : Configuration) (phase : ℕ) (octets : List ℕ) (blocks : List WindowBlock)
    → FirstAt rate c phase octets blocks
    → length (bits_at rate c octets blocks) ≤ 8 * length octets
few-first None c phase octets blocks are = omega (arith, length-drop c.skip (plain_bits c octets), plain-few c octets)
few-first (Some rate) c phase octets blocks are =
    let w = windows_of c rate in
    omega (
      arith,
      followed-few w (soft_octets c phase octets) blocks are,
      length-soft c phase octets,
      length-map (kept_bits blocks) (λ bit. bit == 1),
    )

few-whole : (rate : Option Rate) (c : Configuration) (phase : ℕ) (octets : List ℕ) (blocks : List WindowBlock)
    (left : ℕ) → BlocksAt rate c phase octets blocks left
    → length (bits_at rate c octets blocks) ≤ 8 * length octets
few-whole None c phase octets blocks left are =
    omega (arith, length-drop c.skip (plain_bits c octets), plain-few c octets)
few-whole (Some rate) c phase octets blocks left are =
    let w = windows_of c rate in
    omega (
      arith,
      followed-whole_few w (soft_octets c phase octets) blocks left are,
      length-soft c phase octets,
      length-map (kept_bits blocks) (λ bit. bit == 1),
    )

-- the bits of first blocks, and of all blocks
pub first-few : (c : Configuration) (phase : ℕ) (octets : List ℕ) (blocks : List WindowBlock)
    → AreInnerFirst c phase octets blocks → length (inner_bits c octets blocks) ≤ 8 * length octets
first-few c = few-first c.inner c

pub whole-few : (c : Configuration) (phase : ℕ) (octets : List ℕ) (blocks : List WindowBlock) (left : ℕ)
    → AreInnerBlocks c phase octets blocks left
    → length (inner_bits c octets blocks) ≤ 8 * length octets
whole-few c = few-whole c.inner c

-- due blocks are first ones
due-is-first : (rate : Option Rate) (c : Configuration) (phase : ℕ) (octets : List ℕ) (blocks : List WindowBlock)
    → DueAt rate c phase octets blocks → FirstAt rate c phase octets blocks
due-is-first None c phase octets blocks are = are
due-is-first (Some rate) c phase octets blocks are = (are.to, are.closed)

pub first-of-due : (c : Configuration) (phase : ℕ) (octets : List ℕ) (blocks : List WindowBlock)
    → AreInnerDue c phase octets blocks → AreInnerFirst c phase octets blocks
first-of-due c = due-is-first c.inner c

-- ---- blocks not due yet keep a bit at most for each step of a window and each octet more

more-at : (rate : Rate) (c : Configuration) (phase : ℕ) (given octets : List ℕ) (done all : List WindowBlock)
    → DueAt (Some rate) c phase given done → FirstAt (Some rate) c phase (given ++ octets) all
    → length (kept_bits all) ≤ length (kept_bits done) + c.keep + c.ahead + length octets
more-at rate c phase given octets done all due first =
    let w = windows_of c rate in
    let more = drop (c.skip - length given) octets in
    let back = map (soft_value c) (drop (phase - length (drop c.skip given)) more) in
    let after = subst (λ (l : List ℕ). AreFirstIn w l all) (soft-more c phase given octets) first in
    let short : length back ≤ length octets = omega (
      arith,
      length-map (drop (phase - length (drop c.skip given)) more) (soft_value c),
      length-drop (phase - length (drop c.skip given)) more,
      length-drop (c.skip - length given) octets,
    ) in
    omega (arith, followed-more_few w (soft_octets c phase given) back done all due after, short)

last-at : (rate : Rate) (c : Configuration) (phase : ℕ) (given : List ℕ) (done all : List WindowBlock) (left : ℕ)
    → DueAt (Some rate) c phase given done → BlocksAt (Some rate) c phase given all left
    → length (kept_bits all) ≤ length (kept_bits done) + c.keep + c.ahead
last-at rate c phase given done all left due are =
    let w = windows_of c rate in
    followed-last_few w (soft_octets c phase given) done all left due are

abbrev with_rate : (P : Option Rate → Type 0) → P None → ((rate : Rate) → P (Some rate)) → (rate : Option Rate) → P rate
with_rate P none some None = none
with_rate P none some (Some rate) = some rate

-- blocks of further octets keep few bits more than those that are due
pub more-few : (c : Configuration) (phase : ℕ) (given octets : List ℕ) (done all : List WindowBlock)
    → AreInnerDue c phase given done → AreInnerFirst c phase (given ++ octets) all
    → length (kept_bits all) ≤ length (kept_bits done) + c.keep + c.ahead + length octets
more-few c phase given octets done all =
    with_rate (λ rate. DueAt rate c phase given done → FirstAt rate c phase (given ++ octets) all
    → length (kept_bits all) ≤ length (kept_bits done) + c.keep + c.ahead + length octets)
    (λ due first. omega (arith, ap (λ (l : List WindowBlock). length (kept_bits l)) first))
    (λ rate. more-at rate c phase given octets done all) c.inner

-- and so do all blocks
pub last-few : (c : Configuration) (phase : ℕ) (given : List ℕ) (done all : List WindowBlock) (left : ℕ)
    → AreInnerDue c phase given done → AreInnerBlocks c phase given all left
    → length (kept_bits all) ≤ length (kept_bits done) + c.keep + c.ahead
last-few c phase given done all left =
    with_rate (λ rate. DueAt rate c phase given done → BlocksAt rate c phase given all left
    → length (kept_bits all) ≤ length (kept_bits done) + c.keep + c.ahead)
    (λ due are. omega (arith, ap (λ (l : List WindowBlock). length (kept_bits l)) are.0))
    (λ rate. last-at rate c phase given done all left) c.inner

no-octets : (octets : List ℕ) → length octets ≡ 0 → octets ≡ []
no-octets [] none = refl
no-octets (octet ∷ octets) none = absurd (omega (arith, none))

-- no octets have no blocks that are due
none-due : (rate : Option Rate) (c : Configuration) → DueAt rate c 0 [] []
none-due None c = refl
none-due (Some rate) c =
    let w = windows_of c rate in
    subst (λ (l : List ℕ). AreDueIn w l []) (sym (no-octets (soft_octets c 0 []) (omega (arith, length-soft c 0 []))))
    (followed-no_due w)

pub due-none : (c : Configuration) → AreInnerDue c 0 [] []
due-none c = none-due c.inner c
