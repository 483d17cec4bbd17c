-- How much a block costs at most.
use Rattle.std.proofs.Common.{ℕ, zero, suc, ◌+◌, ◌*◌, ◌<◌, ◌≤◌, List, [], ◌∷◌, length, take, drop, arith, Option, Some, None, length-take, subst, sym, inl, inr}
use Rattle.std.specs.List.{All}
use Rattle.std.proofs.lemmas.Bool.Decides.{nat_tests}
use Rattle.std.proofs.lemmas.List.Elements.{All-append, All-cons, All-drop, All-head, All-map, All-nil, All-tail, All-take, All-weaker}
use Rattle.tm_base.specs.Bits.{AreOctets}
use Rattle.tm_config.specs.Accepted.{IsAccepted}
use Rattle.tm_config.specs.Configuration.{Configuration}
use Rattle.tm_conv.specs.declared.rates.Rate.{Rate}
use Rattle.tm_conv.specs.Cost.{cost, distance}
use Rattle.tm_conv.specs.Path.{path, step_size, steps_size}
use Rattle.tm_conv.proofs.Sizes.{step_size-is}
use Rattle.tm_viterbi.specs.Settings.{Settings}
use Rattle.tm_viterbi.specs.Blocks.{IsBlock}
use Rattle.tm_viterbi.specs.Due.{Place}
use Rattle.tm_viterbi.specs.WindowBlock.{WindowBlock}
use Rattle.tm_windows.specs.Windows.{Windows, Beginning, Spot, first_spot, DropsBy, BeginsBy, BeginsLast, undropped, spot_after, Followed, IsLast, AreBlocksIn}
use Rattle.tm_inner.specs.Inner.{windows_of, soft_value, soft_octets, BlocksAt, AreInnerBlocks}

-- a symbol costs at most 255
cost-small : (symbols octets : List ℕ) → AreOctets octets → cost symbols octets ≤ 255 * length octets
cost-small [] octets each = omega arith
cost-small (x ∷ symbols) [] each = omega arith
cost-small (x ∷ symbols) (y ∷ octets) each =
    let octet : y < 256 = All-head (λ v. v < 256) y octets each in
    let rest = cost-small symbols octets (All-tail (λ v. v < 256) y octets each) in
    let one : distance x y ≤ 255 = grind (arith, nat_tests) in
    let goal : distance x y + cost symbols octets ≤ 255 * suc (length octets) = omega (arith, rest, one) in
    goal

-- a step sends at most two symbols
steps-small : (rate : Rate) (t n : ℕ) → steps_size rate t n ≤ 2 * n
unfolding steps_size
steps-small rate t zero = omega arith
steps-small rate t (suc n) =
    let rest = steps-small rate (t + 1) n in
    let goal : step_size rate t + steps_size rate (t + 1) n ≤ 2 * suc n = omega (arith, rest, step_size-is rate t) in
    goal

abbrev IsSmall : ℕ → WindowBlock → Type 0
IsSmall most block = (block.steps ≤ most) × (block.metric ≤ 510 * block.steps)

-- ---- where octets may be dropped before windows

drops-octets : (s : Settings) (seen : Option ℕ) (at : Place) (b : Beginning) → AreOctets at.octets
    → DropsBy s seen at b → AreOctets b.place.octets
drops-octets s None at b each h = subst (λ (v : Beginning). AreOctets v.place.octets) (sym h) each
drops-octets s (Some steps) at b each h =
    subst (λ (v : Place). AreOctets v.octets) (sym h.2) (All-drop (λ v. v < 256) b.dropped at.octets each)

begun-octets : (w : Windows) (decided : Option ℕ) (at : Place) (b : Beginning) → AreOctets at.octets
    → BeginsBy w decided at b → AreOctets b.place.octets
begun-octets w (Some dropped) at b each h = subst (λ (v : Beginning). AreOctets v.place.octets) (sym h) each
begun-octets w None at b each h = drops-octets w.settings w.seen at b each h

one-small : (s : Settings) (b : Beginning) (n : ℕ) (x : WindowBlock) → AreOctets b.place.octets
    → IsBlock s.rate s.invert s.keep s.ahead b.place.starts b.place.t n b.place.octets (undropped x)
    → IsSmall (s.keep + s.ahead) x
one-small s b n x each is =
    let at = b.place in
    let window = take (steps_size s.rate at.t x.steps) at.octets in
    let costs = cost-small (path s.rate s.invert at.t x.start x.bits) window
    (All-take (λ v. v < 256) (steps_size s.rate at.t x.steps) at.octets each) in
    let size = length-take (steps_size s.rate at.t x.steps) at.octets in
    (omega (arith, is.steps), omega (arith, is.metric, costs, size, steps-small s.rate at.t x.steps))

followed-small : (w : Windows) (from to : Spot) (blocks : List WindowBlock) → AreOctets from.place.octets
    → Followed w from blocks to
    → All (IsSmall (w.settings.keep + w.settings.ahead)) blocks × AreOctets to.place.octets
followed-small w from to [] each h =
    (All-nil (IsSmall (w.settings.keep + w.settings.ahead)), subst (λ (v : Spot). AreOctets v.place.octets) h each)
followed-small w from to (x ∷ xs) each h =
    let s = w.settings in
    let at = h.0.place in
    let here = begun-octets w from.decided from.place h.0 each h.1 in
    let rest = followed-small w (spot_after s h.0 x) to xs (All-drop (λ v. v < 256)
    (steps_size s.rate at.t x.kept) at.octets here) h.3 in (
      All-cons (IsSmall (s.keep + s.ahead)) x xs (one-small s h.0 (s.keep + s.ahead + 1) x here h.2.0.is_block) rest.0,
      rest.1,
    )

last-small : (s : Settings) (b : Beginning) (n : ℕ) (last : List WindowBlock) → AreOctets b.place.octets
    → IsLast s b n last
    → All (IsSmall (s.keep + s.ahead)) last
last-small s b zero last each h =
    subst (All (IsSmall (s.keep + s.ahead))) (sym h) (All-nil (IsSmall (s.keep + s.ahead)))
last-small s b (suc n) last each h =
    subst (All (IsSmall (s.keep + s.ahead))) (sym h.1)
    (All-cons (IsSmall (s.keep + s.ahead)) h.0 [] (one-small s b (suc n) h.0 each h.3)
    (All-nil (IsSmall (s.keep + s.ahead))))

last-octets : (w : Windows) (spot : Spot) (b : Beginning) → AreOctets spot.place.octets → BeginsLast w spot b
    → AreOctets b.place.octets
last-octets w spot b each (inl begins) = begun-octets w spot.decided spot.place b each begins
last-octets w spot b each (inr unseen) = subst (λ (v : Beginning). AreOctets v.place.octets) (sym unseen.1) each

-- each of the blocks of octets
blocks-small : (w : Windows) (octets : List ℕ) (blocks : List WindowBlock) (left : ℕ) → AreOctets octets
    → AreBlocksIn w octets blocks left → All (IsSmall (w.settings.keep + w.settings.ahead)) blocks
blocks-small w octets blocks left each are =
    let s = w.settings in
    let Small : WindowBlock → Type 0 = IsSmall (s.keep + s.ahead) in
    let done = followed-small w (first_spot w octets) are.to are.done each are.closed in
    let last = last-small s are.window are.count are.last (last-octets w are.to are.window done.1 are.begins)
    are.is_last in
    subst (All Small) (sym are.are) (All-append Small are.done are.last done.0 last)

-- ---- of received octets

-- soft octets are octets in either form
soft-octet : (c : Configuration) (y : ℕ) → y < 256 → soft_value c y < 256
soft-octet c y octet = grind (arith, nat_tests)

soft-each : (c : Configuration) (phase : ℕ) (octets : List ℕ) → AreOctets octets
    → AreOctets (soft_octets c phase octets)
soft-each c phase octets each =
    let prefix = All-drop (λ v. v < 256) c.skip octets each in
    let after = All-drop (λ v. v < 256) phase (drop c.skip octets) prefix in
    All-map (λ v. v < 256) (soft_value c) (drop phase (drop c.skip octets))
    (All-weaker (λ v. v < 256) (λ v. soft_value c v < 256) (soft-octet c) (drop phase (drop c.skip octets)) after)

small-at : (rate : Option Rate) (c : Configuration) (phase : ℕ) (octets : List ℕ) (blocks : List WindowBlock)
    (left : ℕ) → AreOctets octets
    → BlocksAt rate c phase octets blocks left → All (IsSmall (c.keep + c.ahead)) blocks
small-at None c phase octets blocks left each are =
    subst (All (IsSmall (c.keep + c.ahead))) (sym are.0) (All-nil (IsSmall (c.keep + c.ahead)))
small-at (Some rate) c phase octets blocks left each are =
    let w = windows_of c rate in
    blocks-small w (soft_octets c phase octets) blocks left (soft-each c phase octets each) are

pub small-metrics : (c : Configuration) (phase : ℕ) (octets : List ℕ) (blocks : List WindowBlock) (left : ℕ)
    → IsAccepted c → AreOctets octets
    → AreInnerBlocks c phase octets blocks left
    → All (λ (b : WindowBlock). (b.steps ≤ c.keep + c.ahead) × (b.metric ≤ 510 * b.steps) × (b.metric ≤ 35512320))
    blocks
small-metrics c phase octets blocks left ok each are =
    All-weaker (IsSmall (c.keep + c.ahead)) (λ (b : WindowBlock). (b.steps ≤ c.keep + c.ahead)
    × (b.metric ≤ 510 * b.steps) × (b.metric ≤ 35512320))
    (λ b small. (small.0, small.1, omega (arith, small.0, small.1, ok.keep, ok.ahead))) blocks
    (small-at c.inner c phase octets blocks left each are)
