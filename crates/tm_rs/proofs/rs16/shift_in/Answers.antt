use Rattle.std.proofs.Common.{arith}
use Rattle.std.specs.Prelude.{replicate}
use Rattle.tm_rs.specs.declared.rs16.TheConstants.{GENERATOR}
use Rattle.tm_rs.proofs.Rows.{stepped}
use Rattle.tm_rs.proofs.rs16.shift_in.Goals as goal

pub returns : goal.returns
returns c =
    stepped 32 GENERATOR c.args.symbol c.args.register c.row_of.result (replicate 31 0)
    (omega arith) c.requires c.row_of.ensures
