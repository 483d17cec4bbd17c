-- What the words ask for.
use Rattle.std.specs.Prelude.{List, [], Option, unwrap_or, option_map, codes}
use Rattle.clap.specs.Words.{Text, Row, first_of, subcommand_of}
use Rattle.tm_words.specs.CommandLine.{command_line, kind_of_name}
use Rattle.tm_words.specs.Options.{raw_of, number_given}
use Rattle.tm_words.specs.declared.commands.JobKind.{JobKind}
use Rattle.tm_words.specs.declared.commands.JobKind.TheVariants.{Word, Soak}
use Rattle.tm_words.specs.declared.job.Job.{Job}

-- a command with the values of the options that each command has
abbrev pub plain_job : JobKind → List Row → Job
plain_job kind rows = record {
  kind = kind;
  raw = raw_of rows;
  hex = [];
  seed = 1;
  frames = 100;
  hits = 0;
}

-- a command with all its values; `word` alone has a word, and `soak` alone a seed, frames and hits
abbrev pub job_of : JobKind → List Row → Job
job_of Word rows = record (plain_job Word rows) { hex = unwrap_or (first_of (codes "hex") rows) [] }
job_of Soak rows = record (plain_job Soak rows) {
  seed = unwrap_or (number_given (codes "seed") rows) (plain_job Soak rows).seed;
  frames = unwrap_or (number_given (codes "frames") rows) (plain_job Soak rows).frames;
  hits = unwrap_or (number_given (codes "hits") rows) (plain_job Soak rows).hits;
}
job_of kind rows = plain_job kind rows

-- the job that the words give, where clap's rule takes them
abbrev pub job_of_words : List Text → Option Job
job_of_words words = option_map (λ matched. job_of (kind_of_name matched.0) matched.1)
    (subcommand_of command_line words)
