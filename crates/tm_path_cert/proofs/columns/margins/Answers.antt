use Rattle.std.proofs.Common.{◌+◌, arith}
use Rattle.tm_path_cert.proofs.Edges.{none_below}
use Rattle.tm_path_cert.proofs.columns.margins.Goals as goal

pub returns-clause-low : goal.returns-clause-low
returns-clause-low c = λ top.
    let h = none_below (c.from-even.result + c.from-near.result) (c.from-odd.result + c.from-far.result)
    (c.from-even.result + c.from-far.result) (c.from-odd.result + c.from-near.result)
    c.from-low.result c.from-high.result (omega arith) (omega arith) (omega arith) (omega arith) (omega arith)
    (omega arith) top in
    (omega (arith, h.0.0), omega (arith, h.0.1))

pub returns-clause-high : goal.returns-clause-high
returns-clause-high c = λ top.
    let h = none_below (c.from-even.result + c.from-near.result) (c.from-odd.result + c.from-far.result)
    (c.from-even.result + c.from-far.result) (c.from-odd.result + c.from-near.result)
    c.from-low.result c.from-high.result (omega arith) (omega arith) (omega arith) (omega arith) (omega arith)
    (omega arith) top in
    (omega (arith, h.1.0), omega (arith, h.1.1))
