use Rattle.std.proofs.Common.{ℕ, ◌∙◌, ap, drop}
use Rattle.std.proofs.lemmas.List.{take_rest}
use Rattle.tm_windows.proofs.window_run.WindowRun.after_first.Goals as goal

pub returns-clause-octets : goal.returns-clause-octets
returns-clause-octets c =
    let octets = c.args.self.now.octets.now in
    take_rest octets c.steps_len-size.result ∙ ap (λ (n : ℕ). drop n octets) c.steps_len-size.ensures
