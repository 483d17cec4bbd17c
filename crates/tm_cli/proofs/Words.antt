-- Words that are refused: those that clap's rule does not take, and others for what a command alone has.
use Rattle.std.proofs.Common.{◌≡◌, ◌∙◌, [], ◌∷◌, Option, Some, None, refl, sym, ap}
use Rattle.clap.specs.Kinds.{Kinds}
use Rattle.tm_config.specs.Accepted.{refusal_of_raw}
use Rattle.tm_config.specs.Configuration.{Configuration, configuration_of}
use Rattle.tm_config.specs.declared.error.ConfigError.{ConfigError}
use Rattle.tm_words.specs.declared.job.Job.{Job}
use Rattle.tm_cli.specs.Commands.{command_of}
use Rattle.tm_cli.specs.declared.refusal.Refusal.{Refusal}
use Rattle.tm_cli.specs.declared.refusal.Refusal.TheVariants as refusal
use Rattle.tm_cli.specs.Refusal.{first_refusal, refusal_after, refusal_of_command, refusal_of_job}

pub words-refused : (faults : Kinds) (job : Option Job) → (faults ≡ [] → ⊥)
    → first_refusal faults job ≡ Some refusal.Words
words-refused [] job none = absurd (none refl)
words-refused (fault ∷ faults) job none = refl

pub command-refused : (faults : Kinds) (read : Option Job) (job : Job) (config : Configuration)
    (found : Option Refusal) (why : Refusal) → faults ≡ [] → read ≡ Some job
    → refusal_of_raw job.raw ≡ None → config ≡ configuration_of job.raw
    → found ≡ refusal_of_command config (command_of job) → found ≡ Some why
    → first_refusal faults read ≡ Some why
command-refused faults read job config found why taken is none same tested refused =
    ap (λ (f : Kinds). first_refusal f read) taken
    ∙ ap refusal_of_job is
    ∙ ap (λ (e : Option ConfigError). refusal_after e (configuration_of job.raw) (command_of job)) none
    ∙ ap (λ (k : Configuration). refusal_of_command k (command_of job)) (sym same)
    ∙ sym tested ∙ refused
