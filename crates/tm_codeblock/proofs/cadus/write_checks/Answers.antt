use Rattle.std.proofs.Common.{◌≡◌, ◌++◌, ℕ, arith, subst}
use Rattle.tm_config.specs.Configuration.{correctable}
use Rattle.tm_gf256.specs.declared.basis.Basis.{Basis}
use Rattle.tm_codeblock.specs.Column.{column}
use Rattle.tm_codeblock.specs.Cadu.{coded_octets}
use Rattle.tm_codeblock.proofs.cadus.write_checks.Goals as goal

pub returns-clause-columns : goal.returns-clause-columns
returns-clause-columns c = λ i below.
    let frame = c.args.frame.now in
    let checks = c.loop-i.checks in
    let is : column c.depth-depth.result i frame ++ column c.depth-depth.result i checks
    ≡ coded_octets c.basis_of-basis.result c.params_of-params.result.e (column c.depth-depth.result i frame) =
    c.loop-i.invariant.columns i (omega arith) in
    let by_depth = subst (λ (n : ℕ). column n i frame ++ column n i checks
    ≡ coded_octets c.basis_of-basis.result c.params_of-params.result.e (column n i frame))
    c.depth-depth.ensures.value is in
    let by_code = subst (λ (n : ℕ). column c.args.config.now.depth i frame ++ column c.args.config.now.depth i checks
    ≡ coded_octets c.basis_of-basis.result n (column c.args.config.now.depth i frame))
    c.params_of-params.ensures.e by_depth in
    subst (λ (b : Basis). column c.args.config.now.depth i frame ++ column c.args.config.now.depth i checks
    ≡ coded_octets b (correctable c.args.config.now.code)
    (column c.args.config.now.depth i frame)) c.basis_of-basis.ensures by_code
