-- The lines of a trace and of a certificate that is checked, each ended by one line feed.
use Rattle.std.specs.Prelude.{ℕ, ◌+◌, ◌==◌, if◌then◌else◌, List, [], ◌++◌, Option, codes, decimal}
use Rattle.tm_driver.specs.Lines.{slips_text, line_end}
use Rattle.tm_viterbi.specs.WindowBlock.{WindowBlock}
use Rattle.tm_path_commands.specs.declared.tally.Tally.{Tally}
use Rattle.tm_cert_file.specs.declared.seen.Reason.{Reason}
use Rattle.tm_cert_file.specs.declared.seen.Reason.TheVariants.{Shape, Joint, Edge, Sum}

-- a window: its steps, how many of them are kept, and its path metric
abbrev pub window_text : (number steps kept metric : ℕ) → List ℕ
window_text number steps kept metric =
    codes "block " ++ decimal number ++ codes " steps " ++ decimal steps
    ++ codes " kept " ++ decimal kept ++ codes " metric " ++ decimal metric ++ line_end

-- `dropped` octets were dropped before a window, after `bits` bits; no line where none were
abbrev pub slip_text : (dropped bits : ℕ) → List ℕ
slip_text dropped bits =
    if dropped == 0
    then []
    else codes "slip " ++ decimal dropped ++ codes " at " ++ decimal bits ++ line_end

-- a window of the soft decoder, after the windows and bits that `was` counts
abbrev pub block_text : Tally → WindowBlock → List ℕ
block_text was block = slip_text block.dropped was.bits
    ++ window_text was.blocks block.steps block.kept block.metric

-- the windows and the bits once this one was reported, too
abbrev pub tally_after : Tally → WindowBlock → Tally
tally_after was block = record { blocks = was.blocks + 1; bits = was.bits + block.kept }

abbrev pub no_blocks : Tally
no_blocks = record { blocks = 0; bits = 0 }

-- the end of a trace: the windows, the bits received, and the octets after the last step
abbrev pub trace_end_text : (blocks bits leftover : ℕ) → List ℕ
trace_end_text blocks bits leftover =
    codes "blocks " ++ decimal blocks ++ codes " bits " ++ decimal bits
    ++ codes " leftover " ++ decimal leftover ++ line_end

-- the same after bits that were written: with how often octets were dropped, where the phase is
-- followed
abbrev pub bits_end_text : (slips : Option ℕ) → (blocks bits leftover : ℕ) → List ℕ
bits_end_text slips blocks bits leftover = slips_text slips ++ trace_end_text blocks bits leftover

-- why a window of a certificate fails
abbrev pub reason_text : Reason → List ℕ
reason_text Shape = codes "shape"
reason_text Joint = codes "joint"
reason_text (Edge column register) = codes "edge " ++ decimal column ++ codes " "
    ++ decimal register
reason_text (Sum sum) = codes "sum " ++ decimal sum

-- the window of a certificate that fails, and why
abbrev pub bad_text : ℕ → Reason → List ℕ
bad_text number reason = codes "bad " ++ decimal number ++ codes " " ++ reason_text reason
    ++ line_end

-- the window of a certificate that is not whole or missing
abbrev pub cut_text : ℕ → List ℕ
cut_text number = codes "cut at block " ++ decimal number ++ line_end
