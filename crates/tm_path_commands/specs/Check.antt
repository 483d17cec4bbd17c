-- The command `check`: a certificate is read, and each of its windows is checked.
use Rattle.std.specs.Prelude.{◌≡◌, ℕ, ◌+◌, Bool, true, false, List, [], ◌∷◌, ◌++◌, length, Option, Some, None}
use Rattle.tm_config.specs.Configuration.{Configuration}
use Rattle.tm_conv.specs.declared.rates.Rate.{Rate}
use Rattle.tm_driver.specs.Meaning.{Meaning, Taken}
use Rattle.tm_driver.specs.Texts.{StopsAt}
use Rattle.tm_inner.specs.Inner.{settings_of}
use Rattle.tm_cert_file.specs.declared.seen.Reason.{Reason}
use Rattle.tm_cert_file.specs.declared.seen.Seen.{Seen}
use Rattle.tm_cert_file.specs.declared.seen.Seen.TheVariants.{More, Failed}
use Rattle.tm_cert_file.specs.Window.{Window}
use Rattle.tm_cert_file.specs.Before.{Rules}
use Rattle.tm_cert_file.specs.Passes.{rules_by}
use Rattle.tm_cert_file.specs.File.{IsRead, IsBroken, IsCut, all_kept, is_cut, kept_octets}
use Rattle.tm_path_commands.specs.Lines.{window_text, trace_end_text, bad_text, cut_text}

-- what a certificate is read by
abbrev pub rules_of : Configuration → Rate → Rules
rules_of c rate = rules_by (settings_of c rate)

-- a property of how octets are read as a certificate; with no inner code none is read
abbrev pub ReadAt : (Rules → Type 0) → Option Rate → Configuration → Type 0
ReadAt P None c = ⊥
ReadAt P (Some rate) c = P (rules_of c rate)

-- the lines of windows, numbered from `number` on
abbrev pub windows_text : ℕ → List Window → List ℕ
windows_text number [] = []
windows_text number (w ∷ windows) = window_text number w.steps w.kept w.metric
    ++ windows_text (number + 1) windows

-- how many of their steps are kept
abbrev pub bits_kept : List Window → ℕ
bits_kept [] = 0
bits_kept (w ∷ windows) = w.kept + bits_kept windows

-- what the notes say after the lines of the windows that pass: the window that fails, or that is
-- not whole or missing, or what they come to
abbrev pub end_text : Seen → Bool → List Window → List ℕ
end_text (Failed reason) cut windows = bad_text (length windows) reason
end_text seen true windows = cut_text (length windows)
end_text seen false windows = trace_end_text (length windows) (bits_kept windows) 0

-- the soft octets of the kept steps of the windows that pass, and what the notes say of the
-- certificate
pub record IsChecked (rules : Rules) (octets out notes : List ℕ) : Type 0 where
  pub windows : List Window
  pub seen : Seen
  pub read : IsRead rules octets windows seen
  pub is_out : out ≡ all_kept rules.rate 0 windows
  pub are_notes : notes ≡ windows_text 0 windows
      ++ end_text seen (is_cut read.before.next read.rest) windows

-- those of the windows that are whole, where none fails
pub record IsCheckedDue (rules : Rules) (octets out notes : List ℕ) : Type 0 where
  pub windows : List Window
  pub read : IsRead rules octets windows More
  pub is_out : out ≡ all_kept rules.rate 0 windows
  pub are_notes : notes ≡ windows_text 0 windows

-- the octets of the next window, and its line; after the last there are none, and the end is
-- written
abbrev pub next_kept : Rate → ℕ → List Window → List ℕ
next_kept rate t [] = []
next_kept rate t (w ∷ rest) = kept_octets rate t w

abbrev pub next_line : ℕ → (end : List ℕ) → List Window → List ℕ
next_line number end [] = end
next_line number end (w ∷ rest) = window_text number w.steps w.kept w.metric

-- The output took the soft octets of the first windows, and the notes their lines, and no more but
-- a part of what comes next: of the octets of the next window or, once the output has taken those,
-- of its line. After the last this is what the notes say at the end.
pub record AreInOrder (rules : Rules) (windows : List Window) (end : List ℕ)
    (taken : Taken) : Type 0 where
  pub prefix : List Window
  pub rest : List Window
  pub split : windows ≡ prefix ++ rest
  pub stops : StopsAt (all_kept rules.rate 0 prefix) (windows_text 0 prefix)
      (next_kept rules.rate (bits_kept prefix) rest) (next_line (length prefix) end rest)
      taken.out taken.out_now taken.notes taken.notes_now

-- what it writes of a certificate that is read by the configuration's inner code, start and windows
abbrev pub check_meaning : Configuration → Meaning
check_meaning c = record {
  is_output = λ octets output. ReadAt (λ rules. IsChecked rules octets output.out output.notes)
      c.inner c;
  is_due = λ octets output. ReadAt (λ rules. IsCheckedDue rules octets output.out output.notes)
      c.inner c;
  -- no window fails, and it ends inside of a window or where one is missing
  is_partial = λ octets. ReadAt (λ rules. (windows : List Window) × IsCut rules octets windows)
      c.inner c;
  -- a window fails
  is_bad = λ octets. ReadAt (λ rules. (windows : List Window) × (reason : Reason)
      × IsBroken rules octets windows reason) c.inner c;
  -- the line of a window follows its octets
  is_in_order = λ octets output taken. ReadAt
      (λ rules. (windows : List Window) × (seen : Seen) × (read : IsRead rules octets windows seen)
      × AreInOrder rules windows (end_text seen (is_cut read.before.next read.rest) windows) taken)
      c.inner c;
  stops_at_bad = Unit {0};
}
