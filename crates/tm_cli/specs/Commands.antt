-- The commands: each with what its words give beside the configuration, and what it writes.
use Rattle.std.specs.Prelude.{ℕ, Bool, true, false, List}
use Rattle.tm_config.specs.Configuration.{Configuration}
use Rattle.tm_driver.specs.Meaning.{Meaning}
use Rattle.tm_path_commands.specs.Bits.{bits_meaning}
use Rattle.tm_path_commands.specs.Certify.{certify_meaning}
use Rattle.tm_path_commands.specs.Check.{check_meaning}
use Rattle.tm_path_commands.specs.Trace.{trace_meaning}
use Rattle.tm_records.specs.Erased.{erased_meaning}
use Rattle.tm_records.specs.Word.{word_meaning}
use Rattle.tm_words.specs.declared.commands.JobKind.{JobKind}
use Rattle.tm_words.specs.declared.commands.JobKind.TheVariants as kind
use Rattle.tm_words.specs.declared.job.Job.{Job}
use Rattle.tm_cli.specs.Decode.{decode_meaning, report_meaning}
use Rattle.tm_cli.specs.Encode.{encode_meaning}
use Rattle.tm_cli.specs.Soak.{soak_meaning}

pub data Command : Type 0 where
  Encode : Command
  Decode : Command
  Report : Command
  Trace : Command
  -- the text of a word
  Word : (text : List ℕ) → Command
  -- the seed, how many frames are generated, and how many symbols of each codeword are changed
  Soak : (seed frames hits : ℕ) → Command
  Erased : Command
  Certify : Command
  Check : Command
  Bits : Command

abbrev pub command_by : JobKind → Job → Command
command_by kind.Encode job = Encode
command_by kind.Decode job = Decode
command_by kind.Report job = Report
command_by kind.Trace job = Trace
command_by kind.Word job = Word job.hex
command_by kind.Soak job = Soak job.seed job.frames job.hits
command_by kind.Erased job = Erased
command_by kind.Certify job = Certify
command_by kind.Check job = Check
command_by kind.Bits job = Bits

-- the command that a job asks for
abbrev pub command_of : Job → Command
command_of job = command_by job.kind job

-- the command reads its input; the others have what they need in their words
abbrev pub reads : Command → Bool
reads (Word text) = false
reads (Soak seed frames hits) = false
reads command = true

-- the command has notes to write; all that the others write is output
abbrev pub has_notes : Command → Bool
has_notes Report = false
has_notes Trace = false
has_notes (Word text) = false
has_notes (Soak seed frames hits) = false
has_notes Certify = false
has_notes command = true

-- what it writes, and what of that is due when
abbrev pub meaning_of : Command → Configuration → Meaning
meaning_of Encode = encode_meaning
meaning_of Decode = decode_meaning
meaning_of Report = report_meaning
meaning_of Trace = trace_meaning
meaning_of (Word text) = word_meaning text
meaning_of (Soak seed frames hits) = soak_meaning seed frames hits
meaning_of Erased = erased_meaning
meaning_of Certify = certify_meaning
meaning_of Check = check_meaning
meaning_of Bits = bits_meaning
