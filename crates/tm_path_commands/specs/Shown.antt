-- What `check` shows, and that what `certify` writes passes.
use Rattle.std.specs.Prelude.{◌≡◌, ℕ, ◌≤◌, List, length, map, Option, Some}
use Rattle.tm_base.specs.Bits.{AreOctets}
use Rattle.tm_base.specs.Handed.{Item}
use Rattle.tm_base.specs.Written.{Wrote}
use Rattle.tm_config.specs.Configuration.{Configuration, unfollowed}
use Rattle.tm_conv.specs.declared.rates.Rate.{Rate}
use Rattle.tm_inner.specs.Inner.{inner_bits}
use Rattle.tm_inner.specs.Symbols.{is_inverted}
use Rattle.tm_driver.specs.Statuses.{status_of}
use Rattle.tm_driver.specs.declared.ending.Ending.TheVariants.{Done, SourceFault, SinkFault}
use Rattle.tm_cert_file.specs.Window.{Window}
use Rattle.tm_cert_file.specs.File.{IsWhole, all_kept}
use Rattle.tm_cert_file.specs.Shown.{AreAllShown}
use Rattle.tm_path_commands.specs.Certify.{IsCertifiedAll}
use Rattle.tm_path_commands.specs.Check.{ReadAt}
use Rattle.tm_path_commands.specs.Trace.{trace_text}

-- A certificate passed, and the output took the soft octets of its windows. Its windows are those
-- of these octets, and the path of each is a candidate that costs its metric, where no candidate
-- costs less.
abbrev pub ShowsLeast : Configuration → List ℕ → (taken taken_now : Option (List ℕ)) → Type 0
ShowsLeast c octets taken taken_now = ReadAt
    (λ rules. (windows : List Window) × IsWhole rules octets windows
    × Wrote taken taken_now (all_kept rules.rate 0 windows)
    × AreAllShown rules (all_kept rules.rate 0 windows) windows) c.inner c

-- two configurations by which the same paths are candidates: of the same inner code, start and
-- windows
pub record HasSamePaths (c d : Configuration) : Type 0 where
  pub inner : c.inner ≡ d.inner
  pub inverted : (rate : Rate) → c.inner ≡ Some rate
      → is_inverted rate c.invert ≡ is_inverted rate d.invert
  pub start : c.start ≡ d.start
  pub keep : c.keep ≡ d.keep
  pub ahead : c.ahead ≡ d.ahead

-- What `certify` writes of other octets, with the same inner code, start and windows, passes within
-- the limit: no window fails and none is missing. The notes are the trace of these octets, whose
-- phase is found once where it is not given, without that phase and with no octet left over.
abbrev pub PassesCertified : ℕ → Configuration → List ℕ → (noted noted_now : Option (List ℕ))
    → Type 0
PassesCertified status c octets noted noted_now =
    (d : Configuration) (given : List ℕ) → HasSamePaths c d → AreOctets given
    → (all : IsCertifiedAll (unfollowed d) given octets) → length octets ≤ c.limit
    → (status ≡ status_of SourceFault → ⊥) → (status ≡ status_of SinkFault → ⊥)
    → (status ≡ status_of Done) × Wrote noted noted_now
    (trace_text (map Item all.are_handed.items)
    (length (inner_bits (unfollowed d) given all.are_handed.items)) 0)
