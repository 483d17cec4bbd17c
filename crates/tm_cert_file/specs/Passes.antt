-- What a certificate that was written is read by, and of which block a window of it is.
use Rattle.std.specs.Prelude.{take}
use Rattle.tm_conv.specs.Path.{register_after}
use Rattle.tm_path_cert.specs.declared.verdicts.Starts.{Starts}
use Rattle.tm_path_cert.specs.declared.verdicts.Starts.TheVariants.{Any, One}
use Rattle.tm_viterbi.specs.declared.block.Start.{Start}
use Rattle.tm_viterbi.specs.declared.block.Start.TheVariants.{Zero as FromZero, Any as FromAny}
use Rattle.tm_viterbi.specs.Settings.{Settings}
use Rattle.tm_viterbi.specs.WindowBlock.{WindowBlock, undropped_block}
use Rattle.tm_cert_file.specs.Window.{Window}
use Rattle.tm_cert_file.specs.Before.{Rules}

abbrev pub starts_by : Start → Starts
starts_by FromZero = One 0
starts_by FromAny = Any

-- the same rate, inversion, starts and steps
abbrev pub rules_by : Settings → Rules
rules_by s = record {
  rate = s.rate;
  invert = s.invert;
  starts = starts_by s.start;
  keep = s.keep;
  ahead = s.ahead;
}

-- the block of a window
abbrev pub block_of : Window → WindowBlock
block_of w = undropped_block w.start w.steps w.kept w.metric w.bits
    (register_after w.start (take w.kept w.bits))
