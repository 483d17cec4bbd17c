use Rattle.std.proofs.Common.{◌≡◌, ◌+◌, ◌<◌, ◌++◌, [], ◌∷◌, length, arith, length-append}
use Rattle.std.proofs.lemmas.List.{take_all}
use Rattle.std.proofs.lemmas.Grind.{common_steps}
use Rattle.tm_inner.specs.declared.window.Window.{Window}
use Rattle.tm_buffers.proofs.Over.{over-set}
use Rattle.tm_buffers.proofs.windows.BufferWindowsWindowWatch.window.Goals as goal

pub returns-clause-window : goal.returns-clause-window
returns-clause-window c = λ lent array windows h.
    let b = c.args.self.now in
    let window = c.window.result in
    let w = h.written in
    let some : b.count < length array = omega (arith, c.if-self.false, b.within, h.long) in
    let all : b.count ≡ length windows = grind (arith, w.full, w.within, some) in
    let first = take_all b.count windows (omega (arith, all)) in
    let last = take_all (b.count + 1) (windows ++ window ∷ []) (omega (arith, all, length-append {A = Window})) in
    let is = c.window.ensures in
    record {
      loan = h.loan;
      long = grind (arith, common_steps, h);
      written = record {
        within = omega (arith, all, length-append {A = Window});
        hold = grind (arith, common_steps, w.hold, over-set);
        full = λ less. absurd (omega (arith, less, all, length-append {A = Window}));
      };
      is_all = record {
        cut = λ short. absurd (omega (arith, h.is_all.cut short, all));
        whole = λ _. omega (arith, all, length-append {A = Window});
      };
    }
