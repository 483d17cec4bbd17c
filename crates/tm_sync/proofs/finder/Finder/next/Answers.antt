use Rattle.std.proofs.Common.{◌∙◌, List, Bool, sym, ap, subst, arith}
use Rattle.tm_sync.specs.Finding.{Passes, Recent}
use Rattle.tm_sync.proofs.Ahead.{ends-short, passes-none, passes-then}
use Rattle.tm_sync.proofs.finder.Finder.next.Goals as goal

pub loop-self-preserved : goal.loop-self-preserved
loop-self-preserved c =
    let was = c.loop-self.self in
    let bits = c.loop-self.recent.bits in
    let stands = c.in-Nothing.ensures in
    let is = c.pass.ensures.bits in
    record {
      size = ap (λ (r : Recent). r.size) is ∙ c.loop-self.invariant.size;
      passes = passes-then c.args.self.now was c.pass.new.self c.args.recent.now.bits bits
          c.pass.new.recent.bits
          c.loop-self.invariant.passes
          (subst (λ (l : List Bool). Passes was c.pass.new.self bits l)
          (sym (ap (λ (r : Recent). r.bits) is))
          (passes-none was c.pass.new.self c.in-Nothing.count bits stands.1 stands.2
          c.pass.ensures.rules
          c.pass.ensures.columns c.pass.ensures.passed));
      whole = c.pass.ensures.whole c.loop-self.invariant.whole;
    }

pub returns-clause-none : goal.returns-clause-none
returns-clause-none c = ends-short c.loop-self.self c.loop-self.recent.bits (omega arith)
