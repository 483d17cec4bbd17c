use Rattle.std.proofs.Common.{◌∙◌, ap, refl, rules}
use Rattle.tm_driver.specs.Statuses.{is_sink_fault}
use Rattle.tm_driver.proofs.Writing.{fails-last, wrote-texts}
use Rattle.tm_driver.proofs.stage.drive_stage.Goals as goal

pub returns-clause-staged : goal.returns-clause-staged
returns-clause-staged g c =
    let d = c.drive_into-ending.ensures.staged in
    let w = wrote-texts g.O.Sink g.N.Sink _ d.1 _ _ refl d.5 c.drive_into-ending.ensures.failed in
    (d.0, d.1, d.2, d.3, d.4, search (rules, w.0))

pub returns-clause-sinks : goal.returns-clause-sinks
returns-clause-sinks g c =
    let d = c.drive_into-ending.ensures.staged in
    let w = wrote-texts g.O.Sink g.N.Sink _ d.1 _ _ refl d.5 c.drive_into-ending.ensures.failed in
    search (rules, w.1)

pub returns-clause-halts : goal.returns-clause-halts
returns-clause-halts g c is =
    let h = c.drive_into-ending.ensures.halts is in
    let w = h.fails in
    let f = fails-last g.O.Sink g.N.Sink h.fed h.last _ w.0 _ refl w.1 w.2 w.3
    (c.drive_into-ending.ensures.failed ∙ ap is_sink_fault is) in
    record { fed = h.fed; last = h.last; fails = search (rules, f); when = h.when }
