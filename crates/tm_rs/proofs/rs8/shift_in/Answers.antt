use Rattle.std.proofs.Common.{arith}
use Rattle.std.specs.Prelude.{replicate}
use Rattle.tm_rs.specs.declared.rs8.TheConstants.{GENERATOR}
use Rattle.tm_rs.proofs.Rows.{stepped}
use Rattle.tm_rs.proofs.rs8.shift_in.Goals as goal

pub returns : goal.returns
returns c =
    stepped 16 GENERATOR c.args.symbol c.args.register c.row_of.result (replicate 15 0)
    (omega arith) c.requires c.row_of.ensures
