use Rattle.std.proofs.Common.{◌≤◌, arith}
use Rattle.std.proofs.Math.Nat.{mul-le-mul}
use Rattle.tm_config.specs.Configuration.{code_of, longest_codeblock}
use Rattle.tm_config.proofs.Accepting.{all_pass, depth_within, most_data-le}
use Rattle.tm_config.proofs.ranges.frame_length.Goals as goal

pub overflow_mul-result : goal.overflow_mul-result
overflow_mul-result c =
    let depth = (depth_within c.args.raw.now (all_pass c.args.raw.now c.requires).depth).1 in
    let most : c.most_data.result ≤ longest_codeblock = rw (c.most_data.ensures, c.code_of.ensures)
    (most_data-le (code_of c.args.raw.now.code)) in
    let product = mul-le-mul depth most in
    omega arith
