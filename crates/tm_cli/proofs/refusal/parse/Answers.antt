use Rattle.std.proofs.Common.{rules, ◌≡◌, map, string_bytes, Some, subst}
use Rattle.clap.specs.Faults.{fault_of}
use Rattle.tm_words.specs.CommandLine.{AreTaken, command_line}
use Rattle.tm_words.specs.Job.{job_of_words}
use Rattle.tm_cli.specs.Refusal.{refusal_of}
use Rattle.tm_cli.specs.declared.refusal.Refusal.{Refusal}
use Rattle.tm_cli.specs.declared.refusal.Refusal.TheVariants.{Words}
use Rattle.tm_cli.proofs.Words.{command-refused, words-refused}
use Rattle.tm_cli.proofs.refusal.parse.Goals as goal

pub returns-in-Err-Words-clause-refused : goal.returns-in-Err-Words-clause-refused
returns-in-Err-Words-clause-refused c = λ why same.
    let words = map string_bytes c.args.words.now in
    let is : Words ≡ why = cc same in
    let none : AreTaken words → ⊥ = search rules in
    subst (λ (w : Refusal). refusal_of words ≡ Some w) is (words-refused (fault_of command_line words)
    (job_of_words words) none)

pub returns-in-Some-clause-refused : goal.returns-in-Some-clause-refused
returns-in-Some-clause-refused c = λ why same.
    let words = map string_bytes c.args.words.now in
    let is : c.in-Some.why ≡ why = cc same in
    subst (λ (w : Refusal). refusal_of words ≡ Some w) is
    (command-refused (fault_of command_line words) (job_of_words words) c.in-Ok.job c.in-Ok-check.config
    c.test_command.result c.in-Some.why
    c.in-Ok.ensures.taken c.in-Ok.ensures.job c.in-Ok-check.ensures.ok c.in-Ok-check.ensures.config
    c.test_command.ensures c.in-Some.is)
