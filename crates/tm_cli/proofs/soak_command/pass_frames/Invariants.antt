use Rattle.std.proofs.Common.{◌≡◌, ◌*◌, ◌≤◌, length, false}
use Rattle.tm_inner.specs.Sending.{InnerSenderStandsFor}
use Rattle.tm_inner.specs.Symbols.{symbols_of_octets}
use Rattle.tm_cli.specs.Generated.{generator_of, drawn, draw_count, generated_units}
use Rattle.tm_cli.specs.Receiving.{HandedDue, IsByAll}
use Rattle.tm_cli.proofs.soak_command.pass_frames.Given as goal

abbrev pub invariant-loop-frame : goal.invariant-loop-frame
invariant-loop-frame g l = record {
  draws : l.draws ≡ drawn (l._frame * draw_count l.config l.hits) (generator_of l.seed);
  config : l.sender.config ≡ l.config;
  stands : InnerSenderStandsFor l.sender (generated_units l.config l._frame l.hits (generator_of l.seed));
  few : length (symbols_of_octets l.config (generated_units l.config l._frame l.hits (generator_of l.seed)))
      ≤ 32704 * l._frame;
  ready : l.receiver.has_stopped ≡ false;
  by : IsByAll l.receiver;
  handed : HandedDue l.config l.receiver l.counts
      (symbols_of_octets l.config (generated_units l.config l._frame l.hits (generator_of l.seed)));
}
