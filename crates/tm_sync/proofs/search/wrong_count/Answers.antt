use Rattle.std.proofs.Common.{ap, ◌∙◌, arith, count_ones, bit_xor}
use Rattle.tm_sync.proofs.Matches.{few-ones, wrong-upright}
use Rattle.tm_sync.proofs.search.wrong_count.Goals as goal

pub overflow_cast-result : goal.overflow_cast-result
overflow_cast-result c =
    let few = few-ones c.args.received c.from_be_bytes.result (omega arith) c.from_be_bytes.type_inv in
    record { fits = omega arith }

pub returns-clause-few : goal.returns-clause-few
returns-clause-few c = few-ones c.args.received c.from_be_bytes.result (omega arith) c.from_be_bytes.type_inv

pub returns-clause-upright : goal.returns-clause-upright
returns-clause-upright c =
    λ bits long is. ap (λ w. count_ones (bit_xor c.args.received w)) c.from_be_bytes.ensures
    ∙ wrong-upright c.args.received bits long is
