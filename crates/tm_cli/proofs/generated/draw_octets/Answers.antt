use Rattle.std.proofs.Common.{◌%◌, ap, arith}
use Rattle.tm_cli.proofs.Generating.{drawn-none, given, stands, octets-none, octets-more}
use Rattle.tm_cli.proofs.generated.draw_octets.Goals as goal

pub loop-i-init : goal.loop-i-init
loop-i-init c = record { octets = octets-none c.args.draws.now c.args.octets.now; draws = drawn-none c.args.draws.now }

pub loop-i-preserved : goal.loop-i-preserved
loop-i-preserved c =
    let g = c.args.draws.now in
    let here = c.loop-i in
    let word = c.next_word in
    record {
      octets =
          octets-more g here.octets here.i (word.result % 256) (omega (arith, here.auto.octets, c.loop-i-test.true))
          (ap (λ n. n % 256) (given here.i g here.draws word.new.self word.result here.invariant.draws word.ensures))
          here.invariant.octets;
      draws = stands here.i g here.draws word.new.self word.result here.invariant.draws word.ensures;
    }
