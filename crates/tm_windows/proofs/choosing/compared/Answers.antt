use Rattle.std.proofs.Common.{◌≡◌, ℕ, ◌+◌, ◌-◌, ◌%◌, ap, ◌∙◌, arith, length}
use Rattle.tm_conv.specs.Path.{period, steps_size}
use Rattle.tm_windows.specs.Phase.{period_size}
use Rattle.tm_windows.proofs.Steps.{left_over}
use Rattle.tm_windows.proofs.Phases.{compared, period_size-is}
use Rattle.tm_windows.proofs.choosing.compared.Goals as goal
use Rattle.tm_windows.proofs.choosing.compared.Goals.{then-room-size-eq1, else-room-size-eq1}

rest : (period room symbols size : ℕ) → size ≡ period + 1 → room ≡ symbols → room % size ≡ symbols % (period + 1)
rest period room symbols size is same = ap (λ (n : ℕ). n % size) same ∙ ap (λ (n : ℕ). symbols % n) is

one_left : (period symbols size room whole : ℕ) → room % size ≡ symbols % (period + 1) → room ≡ symbols
    → room % size ≡ 1 → whole ≡ room - 1 → whole + left_over period symbols ≡ symbols
one_left period symbols size room whole same is one less = omega arith

none_left : (period symbols size room whole : ℕ) → room % size ≡ symbols % (period + 1) → room ≡ symbols
    → (room % size ≡ 1 → ⊥) → whole ≡ room → whole + left_over period symbols ≡ symbols
none_left period symbols size room whole same is other all = omega arith

pub returns : goal.returns
returns c =
    let soft = c.args.soft.now in
    let size = c.from-size.result in
    let room = c.saturating_sub-room.result in
    let whole = c.if-room-size-eq1.whole in
    let symbols : ℕ = length soft - (period_size c.args.rate - 1) in
    let is : room ≡ symbols = omega (
      arith,
      c.saturating_sub-room.ensures,
      c.from-size.ensures,
      c.period_size.ensures.value,
    ) in
    let same = rest (period c.args.rate) room symbols size (omega
    (arith, c.from-size.ensures, c.period_size.ensures.value, period_size-is c.args.rate)) is in
    let all : whole + left_over (period c.args.rate) symbols ≡ symbols = elim c.if-room-size-eq1.branch [
      | then-room-size-eq1 w ↦ one_left (period c.args.rate) symbols size room whole same is w.if-room-size-eq1.true
          w.whole-is
      | else-room-size-eq1 w ↦ none_left (period c.args.rate) symbols size room whole same is w.if-room-size-eq1.false
          w.whole-is
    ] in
    let found = compared c.args.rate c.args.window soft whole all in
    let window : c.symbols_of.result ≡ steps_size c.args.rate 0 c.args.window = c.symbols_of.ensures
    ∙ ap (steps_size c.args.rate 0) c.from.ensures in
    (found.0, found.1, omega (arith, found.2, window, c.min.ensures))
