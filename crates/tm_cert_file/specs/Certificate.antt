-- The certificate of a list of blocks: a window for each, with the columns of least costs, which
-- show that no path costs less.
use Rattle.std.specs.Prelude.{◌≡◌, ℕ, ◌+◌, ◌≤◌, Bool, List, [], ◌∷◌, ◌++◌, Option, Some, length, take, drop, slice_index_or}
use Rattle.tm_conv.specs.declared.rates.Rate.{Rate}
use Rattle.tm_conv.specs.Path.{steps_size}
use Rattle.tm_conv.specs.Columns.{IsColumn}
use Rattle.tm_viterbi.specs.Starts.{starts_from, first_start}
use Rattle.tm_viterbi.specs.Settings.{Settings}
use Rattle.tm_viterbi.specs.WindowBlock.{WindowBlock}
use Rattle.tm_cert_file.specs.Window.{Window, window_octets}

-- the columns for the octets of `steps` steps from step t: of each register the least cost of a
-- path to it, which costs 2^30 more where the path may not start where it does
pub record AreColumns (rate : Rate) (invert : Bool) (starts : Option ℕ) (t steps : ℕ)
    (octets : List ℕ) (columns : List (List ℕ)) : Type 0 where
  pub count : length columns ≡ steps + 1
  pub each : (k : ℕ) → k ≤ steps
      → IsColumn (starts_from starts) rate invert t (take (steps_size rate t k) octets)
      (slice_index_or columns k [])

-- the window of a block
abbrev pub window_for : WindowBlock → (octets : List ℕ) → (columns : List (List ℕ)) → Window
window_for block octets columns = record {
  steps = block.steps;
  kept = block.kept;
  start = block.start;
  metric = block.metric;
  bits = block.bits;
  octets = octets;
  columns = columns;
}

-- the octets that certify the block of a window with these soft octets
pub record IsCertified (rate : Rate) (invert : Bool) (starts : Option ℕ) (t : ℕ) (octets : List ℕ)
    (block : WindowBlock) (text : List ℕ) : Type 0 where
  pub columns : List (List ℕ)
  pub are_columns : AreColumns rate invert starts t block.steps octets columns
  pub is_text : text ≡ window_octets (window_for block octets columns)

-- the same of blocks, one after the other: each next window begins after the kept steps, from the
-- register after them alone
abbrev pub AreCertified : Rate → Bool → Option ℕ → ℕ → List ℕ → List WindowBlock → List ℕ → Type 0
AreCertified rate invert starts t octets [] text = text ≡ []
AreCertified rate invert starts t octets (block ∷ blocks) text =
    (first : List ℕ) × (rest : List ℕ) × IsCertified rate invert starts t
    (take (steps_size rate t block.steps) octets) block first
    × AreCertified rate invert (Some block.end_state) (t + block.kept)
    (drop (steps_size rate t block.kept) octets) blocks rest
    × (text ≡ first ++ rest)

-- the certificate of the first blocks of soft octets, from step 0
abbrev pub IsCertificate : Settings → List ℕ → List WindowBlock → List ℕ → Type 0
IsCertificate s octets = AreCertified s.rate s.invert (first_start s.start) 0 octets
