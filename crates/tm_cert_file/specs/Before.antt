-- What a certificate is read by, and what its next window has to agree with.
use Rattle.std.specs.Prelude.{ℕ, ◌+◌, ◌^◌, ◌||◌, Bool, if◌then◌else◌, List, [], take, drop, nat_lt}
use Rattle.tm_conv.specs.declared.rates.Rate.{Rate}
use Rattle.tm_conv.specs.Path.{steps_size, register_after}
use Rattle.tm_path_cert.specs.declared.verdicts.Starts.{Starts}
use Rattle.tm_path_cert.specs.declared.verdicts.Starts.TheVariants.{One}
use Rattle.tm_cert_file.specs.declared.seen.Next.{Next}
use Rattle.tm_cert_file.specs.declared.seen.Next.TheVariants.{May, Must, Never}
use Rattle.tm_cert_file.specs.Window.{Window}

-- the rate, whether each second sum was sent inverted, where the first path may start, and how many
-- steps of a window are kept and how many follow them
pub record Rules : Type 0 where
  pub rate : Rate
  pub invert : Bool
  pub starts : Starts
  pub keep : ℕ
  pub ahead : ℕ

-- the first step of the next window, where its path may start, the soft octets with which it
-- begins, and whether there is one
pub record Before : Type 0 where
  pub t : ℕ
  pub starts : Starts
  pub octets : List ℕ
  pub next : Next

-- before the first window
abbrev pub at_first : Rules → Before
at_first rules = record { t = 0; starts = rules.starts; octets = []; next = May }

-- whether a window comes after one of `steps` steps, of which `kept` are kept: it must where some
-- are not kept; where all are, none comes after fewer steps than a window may have, or where
-- windows have steps ahead; otherwise it may
abbrev pub next_after : Rules → (steps kept : ℕ) → Next
next_after rules steps kept =
    if nat_lt kept steps then Must
    else if nat_lt steps (rules.keep + rules.ahead) || nat_lt 0 rules.ahead then Never
    else May

-- after a window: the next one begins after the kept steps, from the register after them alone
abbrev pub after_window : Rules → Before → Window → Before
after_window rules before w = record {
  t = before.t + w.kept;
  starts = One (register_after w.start (take w.kept w.bits));
  octets = drop (steps_size rules.rate before.t w.kept) w.octets;
  next = next_after rules w.steps w.kept;
}

-- the most steps that the windows before one keep together
abbrev pub most_kept : ℕ
most_kept = 2 ^ 43
