use Rattle.std.proofs.Common.{◌≡◌, ◌<◌, ℕ, zero, suc, Option, None, refl, sym, ap, arith}
use Rattle.tm_windows.specs.Windows.{starts_after}
use Rattle.tm_windows.proofs.queue.starts_after.Goals as goal

-- after some octets
some-after : (k : ℕ) (starts : Option ℕ) → 0 < k → starts_after k starts ≡ None
some-after zero starts some = absurd (omega (arith, some))
some-after (suc k) starts some = refl

pub returns-then-dropped-eq0-clause-value : goal.returns-then-dropped-eq0-clause-value
returns-then-dropped-eq0-clause-value c =
    sym (ap (λ (k : ℕ). starts_after k c.args.starts) c.if-dropped-eq0.true)

pub returns-else-dropped-eq0-clause-value : goal.returns-else-dropped-eq0-clause-value
returns-else-dropped-eq0-clause-value c =
    sym (some-after c.args.dropped c.args.starts (omega (arith, c.if-dropped-eq0.false)))
