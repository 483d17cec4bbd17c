use Rattle.std.proofs.Common.{rules, ◌≡◌, ◌∙◌, true, false, None, IfOk, subst}
use Rattle.tm_config.specs.Configuration.{configuration_of}
use Rattle.tm_config.specs.declared.values.Raw.{Raw}
use Rattle.tmchan_c.specs.Refusal.{values_refusal}
use Rattle.tmchan_c.proofs.Options.{behind}
use Rattle.tmchan_c.proofs.config.config_of.Goals as goal

pub returns-then-not-are_zero-clause-err : goal.returns-then-not-are_zero-clause-err
returns-then-not-are_zero-clause-err c =
    let some : c.are_zero.result ≡ false = search rules in
    rw (behind c.args.options.now _ _ c.min.ensures c.are_zero.ensures ∙ some)

pub returns-clause-ok : goal.returns-clause-ok
returns-clause-ok c =
    let none : c.are_zero.result ≡ true = search rules in
    rw (behind c.args.options.now _ _ c.min.ensures c.are_zero.ensures ∙ none) (subst (λ (raw : Raw).
    IfOk c.checked.result (λ config. (values_refusal raw ≡ None) × (config ≡ configuration_of raw))) c.raw.ensures
    c.checked.ensures.ok)

pub returns-clause-err : goal.returns-clause-err
returns-clause-err c =
    let none : c.are_zero.result ≡ true = search rules in
    rw (behind c.args.options.now _ _ c.min.ensures c.are_zero.ensures ∙ none, ← c.raw.ensures) c.checked.ensures.err
