-- A certificate as it is read: the windows that pass, and what is seen after them.
use Rattle.std.specs.Prelude.{◌≡◌, ℕ, ◌+◌, Bool, true, false, List, [], ◌∷◌, ◌++◌, drop, take}
use Rattle.tm_conv.specs.declared.rates.Rate.{Rate}
use Rattle.tm_conv.specs.Path.{steps_size}
use Rattle.tm_cert_file.specs.declared.seen.Next.{Next}
use Rattle.tm_cert_file.specs.declared.seen.Reason.{Reason}
use Rattle.tm_cert_file.specs.declared.seen.Seen.{Seen}
use Rattle.tm_cert_file.specs.declared.seen.Seen.TheVariants.{More, Passed, Failed}
use Rattle.tm_cert_file.specs.Window.{Window, window_in, window_size}
use Rattle.tm_cert_file.specs.Before.{Rules, Before, at_first, after_window}
use Rattle.tm_cert_file.specs.Seen.{IsSeen, is_due}

-- the octets begin with windows that pass, one after the other, from one place to another; after
-- them the octets of `rest` are left
abbrev pub ArePassed : Rules → Before → List ℕ → List Window → Before → List ℕ → Type 0
ArePassed rules from octets [] to rest = (to ≡ from) × (rest ≡ octets)
ArePassed rules from octets (w ∷ windows) to rest =
    IsSeen rules from octets Passed × (w ≡ window_in rules.rate from.t octets)
    × ArePassed rules (after_window rules from w)
    (drop (window_size rules.rate from.t w.steps) octets) windows to rest

-- the octets of a certificate: each window that passes, and what is seen of the one that is not
-- whole or fails
pub record IsRead (rules : Rules) (octets : List ℕ) (windows : List Window)
    (seen : Seen) : Type 0 where
  pub before : Before
  pub rest : List ℕ
  pub passed : ArePassed rules (at_first rules) octets windows before rest
  pub is_seen : IsSeen rules before rest seen
  pub stops : seen ≡ Passed → ⊥

-- the window after those that pass fails, for this reason
abbrev pub IsBroken : Rules → List ℕ → List Window → Reason → Type 0
IsBroken rules octets windows reason = IsRead rules octets windows (Failed reason)

-- a certificate that ends with these octets of a window ends inside of it, or where one is missing
abbrev pub is_cut : Next → List ℕ → Bool
is_cut next [] = is_due next
is_cut next (octet ∷ octets) = true

-- no window fails, and the certificate ends inside of a window or where one is missing, or after
-- one that may be the last
abbrev pub IsEnded : Bool → Rules → List ℕ → List Window → Type 0
IsEnded cut rules octets windows = (read : IsRead rules octets windows More)
    × (is_cut read.before.next read.rest ≡ cut)

abbrev pub IsCut : Rules → List ℕ → List Window → Type 0
IsCut = IsEnded true

abbrev pub IsWhole : Rules → List ℕ → List Window → Type 0
IsWhole = IsEnded false

-- the soft octets of the kept steps of windows, from step t
abbrev pub kept_octets : Rate → ℕ → Window → List ℕ
kept_octets rate t w = take (steps_size rate t w.kept) w.octets

abbrev pub all_kept : Rate → ℕ → List Window → List ℕ
all_kept rate t [] = []
all_kept rate t (w ∷ windows) = kept_octets rate t w ++ all_kept rate (t + w.kept) windows
