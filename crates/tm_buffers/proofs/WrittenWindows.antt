-- Windows that were written to an array, one after another.
use Rattle.std.proofs.Common.{◌≡◌, ◌^◌, ◌≤◌, ◌++◌, ℕ, nat_le, if◌then◌else◌, Option, None, List, [], ◌∷◌, length, ap, arith}
use Rattle.std.proofs.lemmas.Fn.{chained_keeps}
use Rattle.tm_base.specs.Takers.{HandedOver}
use Rattle.tm_config.specs.Configuration.{Configuration}
use Rattle.tm_inner.specs.declared.window.Window.{Window}
use Rattle.tm_buffers.specs.Receiving.{WritesWindows}
use Rattle.tm_buffers.specs.Windows.{HasGathered, most_windows}
use Rattle.tm_buffers.specs.declared.items.Written.{Written}
use Rattle.tm_buffers.specs.declared.windows.BufferWindows.{BufferWindows}
use Rattle.tm_buffers.proofs.Needed.{needed}
use Rattle.tm_buffers.proofs.Over.{answered}

abbrev Took : BufferWindows → Window → BufferWindows → Type 0
Took a window b = (lent : ℕ) (array windows : List Window) → HasGathered lent array windows a
    → HasGathered lent array (windows ++ window ∷ []) b

pub gathered : (lent : ℕ) (array : List Window) (a b : BufferWindows) (windows : List Window)
    → HasGathered lent array [] a → HandedOver Took a windows b → HasGathered lent array windows b
gathered lent array a b windows =
    chained_keeps Took (HasGathered lent array) (λ before q window v h took. took lent array before h) windows a b

-- where there is room for all they are all
pub all-written : (lent : ℕ) (array windows : List Window) (b : BufferWindows) → HasGathered lent array windows b
    → length windows ≤ length array → b.count ≡ length windows
all-written lent array windows b h room = grind (arith, h.written.full, h.written.within, room)

-- what a receiver has written of windows of which this is true
pub windows-written : (Are : List Window → Type 0) (c : Configuration) (octets lent : ℕ) (array windows : List Window)
    (b : BufferWindows) (answer : Option ℕ) (said : Written) → Are windows → HasGathered lent array windows b
    → ((most : ℕ) → octets ≤ most → length windows ≤ most_windows c most)
    → WritesWindows Are c octets array b.windows.now answer (if b.is_short then None else answer)
    (record said { windows = b.count })
windows-written Are c octets lent array windows b answer said are h few = record {
  windows = windows;
  are = are;
  written = h.written;
  answer = answered b.is_short b.count (length windows) answer h.is_all;
  enough = λ most more room. all-written lent array windows b h
      (omega (arith, few most more, needed (most_windows c most) (nat_le most (2 ^ 40)) (length array) room));
}

-- where no windows are said to be written it can be said anew
pub no-windows : (said : Written) → said.windows ≡ 0 → said ≡ record said { windows = 0 }
no-windows said none = ap (λ (n : ℕ). record said { windows = n }) none
