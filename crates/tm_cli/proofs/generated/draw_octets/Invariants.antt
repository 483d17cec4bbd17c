use Rattle.std.proofs.Common.{◌≡◌, take}
use Rattle.tm_cli.specs.Generated.{drawn, drawn_octets}
use Rattle.tm_cli.proofs.generated.draw_octets.Given as goal

abbrev pub invariant-loop-i : goal.invariant-loop-i
invariant-loop-i l = record {
  octets : take l.i l.octets ≡ drawn_octets l.i l.fn.draws;
  draws : l.draws ≡ drawn l.i l.fn.draws;
}
