use Rattle.std.proofs.Common.{◌≡◌, ◌*◌, ◌≤◌, ◌++◌, length, List, sym, ap, ◌∙◌, subst, arith}
use Rattle.std.proofs.lemmas.Grind.{common_steps}
use Rattle.tm_config.specs.Configuration.{codeblock_length}
use Rattle.tm_inner.specs.Sending.{InnerSenderStandsFor}
use Rattle.tm_inner.specs.Symbols.{symbols_of_octets}
use Rattle.tm_inner.proofs.Symbols.{symbols-none}
use Rattle.tm_cli.specs.Generated.{generator_of, drawn, draw_count, generated_units}
use Rattle.tm_cli.specs.Receiving.{HandedDue}
use Rattle.tm_cli.specs.declared.counts.Counts.{Counts}
use Rattle.tm_cli.proofs.Generating.{drawn-none, units-none, units-more, draws-frames}
use Rattle.tm_cli.proofs.Soaking.{unit_few, few-more, handed-none, handed-more}
use Rattle.tm_cli.proofs.soak_command.pass_frames.Goals as goal

pub loop-frame-init : goal.loop-frame-init
loop-frame-init g c =
    let config = c.args.config.now in
    let start = generator_of c.args.seed in
    let none : 0 ≡ 0 * draw_count config c.args.hits = omega arith in
    record {
      draws = c.new-draws.ensures ∙ drawn-none start ∙ ap (λ n. drawn n start) none;
      config = c.new-sender.ensures.config;
      stands =
          subst (InnerSenderStandsFor c.new-sender.result)
          (sym (units-none config c.args.hits start)) c.new-sender.ensures.stands;
      few = omega (
        arith,
        ap length (ap (symbols_of_octets config) (units-none config c.args.hits start) ∙ symbols-none config),
      );
      ready = c.requires.ready;
      by = c.requires.by;
      handed =
          subst (λ (k : Counts). HandedDue config c.args.receiver.now k
          (symbols_of_octets config (generated_units config 0 c.args.hits start)))
          (sym c.new-counts.ensures) (handed-none config c.args.hits c.args.receiver.now c.depth.ensures.accepted
          c.requires.config c.requires.new start);
    }

pub slice_bounds-unit-end : goal.slice_bounds-unit-end
slice_bounds-unit-end g c =
    let most = unit_few c.args.config.now c.depth.result c.word_length.result c.depth.ensures.accepted
    c.depth.ensures.value c.word_length.ensures.value in
    grind (arith, common_steps)

pub generate_unit-requires-clause-unit : goal.generate_unit-requires-clause-unit
generate_unit-requires-clause-unit g c =
    let size : c.depth.result * c.word_length.result ≡ codeblock_length c.args.config.now =
    ap (λ d. d * c.word_length.result) c.depth.ensures.value
    ∙ ap (λ n. c.args.config.now.depth * n) c.word_length.ensures.value in
    let most = unit_few c.args.config.now c.depth.result c.word_length.result c.depth.ensures.accepted
    c.depth.ensures.value c.word_length.ensures.value in
    let long = c.loop-frame.auto.unit in
    grind (arith, common_steps)

pub loop-frame-preserved : goal.loop-frame-preserved
loop-frame-preserved g c =
    let config = c.args.config.now in
    let hits = c.args.hits in
    let start = generator_of c.args.seed in
    let here = c.loop-frame in
    let was = here.invariant in
    let made = c.generate_unit in
    let pass = c.pass_unit in
    let frame = here._frame in
    record {
      draws = draws-frames config frame hits start here.draws made.new.draws was.draws made.ensures.draws;
      config = pass.ensures.config ∙ was.config;
      stands =
          subst (InnerSenderStandsFor pass.new.sender)
          (ap (λ (unit : List _). generated_units config frame hits start ++ unit) made.ensures.unit
          ∙ units-more config frame hits start here.draws was.draws)
          (pass.ensures.stands (generated_units config frame hits start) was.stands);
      few =
          few-more config hits frame start here.draws here.sender made.new.unit was.config was.draws made.ensures.unit
          was.few (pass.ensures.few (generated_units config frame hits start) was.stands);
      ready = pass.ensures.ready;
      by = pass.ensures.by;
      handed =
          handed-more config hits frame start here.draws here.sender here.receiver pass.new.receiver here.counts
          pass.new.counts made.new.unit was.config was.draws made.ensures.unit was.handed
          (pass.ensures.handed config (generated_units config frame hits start) was.stands);
    }

pub returns-clause-few : goal.returns-clause-few
returns-clause-few g c =
    let config = c.args.config.now in
    let start = generator_of c.args.seed in
    let end : c.loop-frame._frame ≡ c.args.frames = omega (
      arith,
      c.loop-frame.auto._frame-end,
      c.loop-frame-test.false,
    ) in
    subst (λ n. length (symbols_of_octets config (generated_units config n c.args.hits start)) ≤ 32704 * n) end
    c.loop-frame.invariant.few

pub returns-clause-handed : goal.returns-clause-handed
returns-clause-handed g c =
    let config = c.args.config.now in
    let start = generator_of c.args.seed in
    let end : c.loop-frame._frame ≡ c.args.frames = omega (
      arith,
      c.loop-frame.auto._frame-end,
      c.loop-frame-test.false,
    ) in
    subst (λ n. HandedDue config c.loop-frame.receiver c.loop-frame.counts
    (symbols_of_octets config (generated_units config n c.args.hits start))) end c.loop-frame.invariant.handed
