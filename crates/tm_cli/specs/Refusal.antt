-- Why the words of the command line are refused, and what they ask for.
use Rattle.std.specs.Prelude.{◌≡◌, ℕ, if◌then◌else◌, is_none, List, [], ◌∷◌, Option, Some, None, option_map, codes}
use Rattle.clap.specs.Words.{Text}
use Rattle.clap.specs.Faults.{fault_of}
use Rattle.clap.specs.Kinds.{Kinds}
use Rattle.tm_config.specs.Configuration.{Configuration, configuration_of, is_uncoded}
use Rattle.tm_config.specs.Accepted.{name_of, refusal_of_raw}
use Rattle.tm_config.specs.declared.error.ConfigError.{ConfigError}
use Rattle.tm_config.specs.declared.error.ConfigError.TheVariants.{Code, Inner}
use Rattle.tm_words.specs.CommandLine.{command_line}
use Rattle.tm_words.specs.Job.{job_of_words}
use Rattle.tm_words.specs.declared.job.Job.{Job}
use Rattle.tm_cli.specs.Commands.{Command, command_of}
use Rattle.tm_cli.specs.Commands.Command.{Word, Soak, Erased, Check}
use Rattle.tm_cli.specs.Soak.{soak_refusal, soak_reason}
use Rattle.tm_records.specs.Word.{word_refusal, word_reason}
use Rattle.tm_cli.specs.declared.refusal.Refusal.{Refusal}
use Rattle.tm_cli.specs.declared.refusal.Refusal.TheVariants.{Words, Value, OfWord, OfSoak}

-- the refusal of what a command alone has
abbrev pub refusal_of_command : Configuration → Command → Option Refusal
refusal_of_command c (Word text) = option_map OfWord (word_refusal c text)
refusal_of_command c (Soak seed frames hits) = option_map OfSoak (soak_refusal c seed frames hits)
refusal_of_command c Erased = if is_uncoded c.code then Some (Value Code) else None
refusal_of_command c Check = if is_none c.inner then Some (Value Inner) else None
refusal_of_command c command = None

-- the refusal for the first value of the configuration that is outside its list or range, and
-- after these for what a command alone has
abbrev pub refusal_after : Option ConfigError → Configuration → Command → Option Refusal
refusal_after (Some error) c command = Some (Value error)
refusal_after None c command = refusal_of_command c command

-- the refusal of a job; no job is refused as the words
abbrev pub refusal_of_job : Option Job → Option Refusal
refusal_of_job None = Some Words
refusal_of_job (Some job) = refusal_after (refusal_of_raw job.raw) (configuration_of job.raw)
    (command_of job)

-- words that clap's rule does not take are refused as such, and others for their job
abbrev pub first_refusal : Kinds → Option Job → Option Refusal
first_refusal [] job = refusal_of_job job
first_refusal (fault ∷ faults) job = Some Words

-- the first reason to refuse the words, the first of which is the program's name, or none
abbrev pub refusal_of : List Text → Option Refusal
refusal_of words = first_refusal (fault_of command_line words) (job_of_words words)

-- the words are not refused, and parse as this job
pub record AreParsedAs (words : List Text) (job : Job) : Type 0 where
  pub accepted : refusal_of words ≡ None
  pub read : job_of_words words ≡ Some job

-- the reason that the line gives
abbrev pub reason_of : Refusal → List ℕ
reason_of Words = codes "words"
reason_of (Value error) = name_of error
reason_of (OfWord refusal) = word_reason refusal
reason_of (OfSoak refusal) = soak_reason refusal
