-- How many symbols come of octets at most.
use Rattle.std.proofs.Common.{◌≡◌, ◌+◌, ◌*◌, ◌/◌, ◌^◌, ◌<◌, ◌≤◌, ℕ, zero, suc, length, arith}
use Rattle.std.proofs.lemmas.Nat.{le-div}
use Rattle.std.proofs.Math.Nat.{div-le_self, div-mul-le_self, mul-le-mul}
use Rattle.tm_inner.specs.Sending.{most_symbols}
use Rattle.tm_codeblock.specs.Cadu.{unit_size}
use Rattle.tm_channel.specs.Sending.{Sending, most_made}

-- ---- how large the room is

-- as many units of the longest codeblock as there are octets, at most 2^40, and one
pub units-few : (count size unit : ℕ) → count ≤ 2 ^ 40 → unit ≤ 2044 → (count / size + 1) * unit ≤ (2 ^ 40 + 1) * 2044
units-few count size unit few short =
    mul-le-mul (let less : count / size + 1 ≤ 2 ^ 40 + 1 = omega (arith, few, div-le_self count size) in less) short

-- ---- that it is enough

-- as many frames are whole of these octets and those that are held as of these alone, or one more
frames-few : (frames size held count : ℕ) → 0 < size → held < size → frames * size ≤ held + count
    → frames ≤ count / size + 1
frames-few zero size held count some partial within = omega arith
frames-few (suc frames) size held count some partial within =
    let product : suc frames * size ≡ size + frames * size = grind arith in
    let least = le-div frames count size some (omega (arith, product, within)) in
    omega (arith, least)

pub most-fits : (s : Sending) (count room : ℕ) → length s.held < s.config.frame_length
    → (count / s.config.frame_length + 1) * unit_size s.config * most_symbols s.config ≤ room
    → most_made s count ≤ room
most-fits s count room partial enough =
    let size = s.config.frame_length in
    let frames = frames-few ((length s.held + count) / size) size (length s.held) count (omega (arith, partial)) partial
    (div-mul-le_self (length s.held + count) size) in
    let most : most_made s count ≤ (count / size + 1) * unit_size s.config * most_symbols s.config =
    mul-le-mul (mul-le-mul frames (omega arith)) (omega arith) in
    omega (arith, most, enough)

-- there is room for a unit where a frame is whole
pub unit-fits : (s : Sending) (count room : ℕ) → 0 < s.config.frame_length → most_made s count ≤ room
    → s.config.frame_length ≤ length s.held + count → most_symbols s.config * unit_size s.config ≤ room
unit-fits s count room some few whole =
    let frames = (length s.held + count) / s.config.frame_length in
    let one : 1 ≤ frames = le-div 1 (length s.held + count) s.config.frame_length some (omega (arith, whole)) in
    let least : 1 * unit_size s.config * most_symbols s.config ≤ most_made s count =
    mul-le-mul (mul-le-mul one (omega arith)) (omega arith) in
    let product : most_symbols s.config * unit_size s.config ≡ 1 * unit_size s.config * most_symbols s.config =
    grind arith in
    omega (arith, product, least, few)
