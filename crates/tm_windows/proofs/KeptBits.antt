-- The bits that the blocks of closed windows keep.
use Rattle.std.proofs.Common.{◌≡◌, ℕ, ◌+◌, ◌*◌, ◌≤◌, ◌∙◌, ◌++◌, refl, sym, arith, Bool, List, [], ◌∷◌, Option, Some, None, length, take, length-append, length-take, mul-le-mul_right}
use Rattle.std.proofs.lemmas.Bool.Decides.{nat_tests}
use Rattle.tm_conv.specs.declared.rates.Rate.{Rate}
use Rattle.tm_conv.specs.Path.{steps_size}
use Rattle.tm_conv.proofs.Paths.{length-path}
use Rattle.tm_conv.proofs.Sizes.{same_from_steps_size}
use Rattle.tm_viterbi.specs.Settings.{Settings}
use Rattle.tm_viterbi.specs.WindowBlock.{WindowBlock}
use Rattle.tm_viterbi.specs.Blocks.{IsBlock, kept_steps, window_steps}
use Rattle.tm_viterbi.specs.Clean.{kept_bits}
use Rattle.tm_viterbi.specs.Due.{AreDue, first_place}
use Rattle.tm_viterbi.proofs.CleanBlocks.{steps-mono}
use Rattle.tm_windows.specs.Windows.{Windows, Beginning, Spot, first_spot, undropped, spot_after, Followed, AreDueIn, kept_of}
use Rattle.tm_windows.proofs.FollowedRuns.{followed-steps, runs-to, unfollowed-all}

pub kept-le : (keep ahead n : ℕ) → kept_steps keep ahead n ≤ window_steps keep ahead n
kept-le keep ahead n = grind (arith, nat_tests)

-- a block has a bit for each step
pub block-bits : (rate : Rate) (invert : Bool) (keep ahead : ℕ) (starts : Option ℕ) (t n : ℕ) (octets : List ℕ)
    (b : WindowBlock) → steps_size rate t n ≤ length octets
    → IsBlock rate invert keep ahead starts t n octets b → length b.bits ≡ b.steps
block-bits rate invert keep ahead starts t n octets b whole is =
    let inside : steps_size rate t b.steps ≤ length octets =
    omega (arith, whole, steps-mono rate t b.steps n (omega (arith, is.steps))) in
    let size : steps_size rate t (length b.bits) ≡ steps_size rate t b.steps =
    sym (length-path rate invert t b.start b.bits) ∙ is.best.candidate.covers
    ∙ omega (arith, inside, length-take (steps_size rate t b.steps) octets) in
    same_from_steps_size rate t (length b.bits) b.steps size

-- it keeps as many bits as it says
pub block-keeps : (s : Settings) (b : Beginning) (n : ℕ) (x : WindowBlock)
    → steps_size s.rate b.place.t n ≤ length b.place.octets
    → IsBlock s.rate s.invert s.keep s.ahead b.place.starts b.place.t n b.place.octets (undropped x)
    → length (take x.kept x.bits) ≡ x.kept
block-keeps s b n x whole is =
    let less : x.kept ≤ x.steps = omega (arith, is.kept, is.steps, kept-le s.keep s.ahead n) in
    omega (
      arith,
      less,
      length-take x.kept x.bits,
      block-bits s.rate s.invert s.keep s.ahead b.place.starts b.place.t n b.place.octets (undropped x) whole is,
    )

pub followed-keep : (w : Windows) (from to : Spot) (blocks : List WindowBlock) → Followed w from blocks to
    → length (kept_bits blocks) ≡ kept_of blocks
followed-keep w from to [] h = refl
followed-keep w from to (x ∷ xs) h =
    let s = w.settings in
    omega (
      arith,
      length-append (take x.kept x.bits) (kept_bits xs),
      block-keeps s h.0 (s.keep + s.ahead + 1) x h.2.0.room h.2.0.is_block,
      followed-keep w (spot_after s h.0 x) to xs h.3,
    )

-- each of them as many
pub followed-bits : (w : Windows) (from to : Spot) (blocks : List WindowBlock) → Followed w from blocks to
    → length (kept_bits blocks) ≡ length blocks * w.settings.keep
followed-bits w from to blocks h = followed-keep w from to blocks h ∙ followed-steps w from to blocks h

-- the last of them as well
pub followed-later : (w : Windows) (from to : Spot) (prefix blocks : List WindowBlock)
    → Followed w from (prefix ++ blocks) to
    → length (kept_bits blocks) ≡ length blocks * w.settings.keep
followed-later w from to [] blocks h = followed-bits w from to blocks h
followed-later w from to (x ∷ prefix) blocks h = followed-later w (spot_after w.settings h.0 x) to prefix blocks h.3

pub bits-append : (first rest : List WindowBlock) → length (kept_bits (first ++ rest))
    ≡ length (kept_bits first) + length (kept_bits rest)
bits-append [] rest = omega arith
bits-append (x ∷ first) rest = omega (
  arith,
  length-append (take x.kept x.bits) (kept_bits (first ++ rest)),
  length-append (take x.kept x.bits) (kept_bits first),
  bits-append first rest,
)

-- where no octet is dropped
due-bits : (s : Settings) (octets : List ℕ) (blocks : List WindowBlock) → AreDue s octets blocks
    → length (kept_bits blocks) ≡ length blocks * s.keep
due-bits s octets blocks due =
    let w : Windows = record { settings = s; seen = None } in
    let at = first_place s octets in
    let spot : Spot = record { place = at; decided = Some 0 } in
    let runs = runs-to w spot spot [] blocks at due.to refl refl due.closed
    (unfollowed-all w refl at.t (length blocks) octets) in
    followed-bits w spot runs.to blocks runs.closed

-- the blocks that are due after those before, `count` or fewer, keep at most `bits` bits
pub few-bits : (w : Windows) (octets : List ℕ) (done more : List WindowBlock) (count bits : ℕ)
    → AreDueIn w octets (done ++ more) → length more ≤ count → count * w.settings.keep ≤ bits
    → length (kept_bits more) ≤ bits
few-bits w octets done more count bits due few room =
    let most : length more * w.settings.keep ≤ count * w.settings.keep = mul-le-mul_right w.settings.keep few in
    omega (arith, followed-later w (first_spot w octets) due.to done more due.closed, most, room)

-- with those before no more than those that are due where no octet is dropped
pub most-bits : (w : Windows) (octets : List ℕ) (done more plain : List WindowBlock) (count : ℕ)
    → AreDueIn w octets (done ++ more) → length more ≤ count → length done + count ≤ length plain
    → AreDue w.settings octets plain
    → length (kept_bits done) + length (kept_bits more) ≤ length (kept_bits plain)
most-bits w octets done more plain count due few room are =
    let keep : ℕ = w.settings.keep in
    let most : length (done ++ more) * keep ≤ length plain * keep = mul-le-mul_right keep
    (let le : length (done ++ more) ≤ length plain = omega (arith, length-append done more, few, room) in le) in
    omega (
      arith,
      bits-append done more,
      followed-bits w (first_spot w octets) due.to (done ++ more) due.closed,
      due-bits w.settings octets plain are,
      most,
    )
