-- Calls of a receiver whose taker may fail, by what is told to one that hands on until it fails.
use Rattle.std.proofs.Common.{◌≡◌, ◌++◌, ℕ, Bool, true, false, List, refl, sym, ◌∙◌, ap, subst, arith, Option, None, Some, Ok, Err}
use Rattle.tm_base.specs.Handed.{Handed, on_handed}
use Rattle.tm_base.specs.Takers.{HandedOver}
use Rattle.tm_channel.specs.Calls.{Feeds, Finishes, Tells, TellsLast}
use Rattle.tm_channel.specs.Items.{ItemValue}
use Rattle.tm_channel.specs.OctetReceiving.{OctetReceiving}
use Rattle.tm_channel.specs.declared.receiver.RecvError.TheVariants.{Stopped, Taker}
use Rattle.tm_channel.specs.declared.totals.Totals.{Totals}
use Rattle.tm_channel.specs.declared.until_fault.UntilFault.{UntilFault}
use Rattle.tm_channel.proofs.FirstItems.{handed-first, handed-prefix}
use Rattle.tm_channel.proofs.PhasedItems.{part-some, prefix-nil}
use Rattle.tm_inner.proofs.Until.{PassesAll}
use Rattle.tm_channel.proofs.Until.{Took, TookPhase, passes-all}

module _ {T : Type 0} (took_phase broke_phase : T → ℕ → ℕ → T → Type 0) (took broke : T → ItemValue → T → Type 0)
    (faults : T → ℕ) (is_last : T → Type 0) where
  abbrev pub Takes : T → Handed ItemValue → T → Type 0
  Takes = on_handed took_phase took

  abbrev pub Breaks : T → Handed ItemValue → T → Type 0
  Breaks = on_handed broke_phase broke

  -- what such a one is told
  abbrev pub Told : UntilFault T → Handed ItemValue → UntilFault T → Type 0
  Told = on_handed (TookPhase took_phase broke_phase took broke faults is_last)
      (Took took_phase broke_phase took broke faults is_last)

  -- it had not failed before
  passed : (a b : UntilFault T) (items : List (Handed ItemValue)) (has : Bool) → a.has_failed ≡ false
      → b.has_failed ≡ has → HandedOver Told a items b
      → PassesAll Takes Breaks faults is_last items false a.taker.now has b.taker.now
  passed a b items has had is handed =
      subst (λ f. PassesAll Takes Breaks faults is_last items false a.taker.now f b.taker.now) is
      (subst (λ f. PassesAll Takes Breaks faults is_last items f a.taker.now b.has_failed b.taker.now) had
      (passes-all took_phase broke_phase took broke faults is_last a b items handed).1)

  pub told-loan : (before now : OctetReceiving) (a b : UntilFault T) (octets : List ℕ) (went : Bool)
      → Tells Told before now a b octets went → b.taker.ghost_name ≡ a.taker.ghost_name
  told-loan before now a b octets true tells =
      let h = tells.handed refl in (passes-all took_phase broke_phase took broke faults is_last a b h.0 h.1).0
  told-loan before now a b octets false tells =
      ap (λ (u : UntilFault T). u.taker.ghost_name) (tells.unchanged refl).1

  pub feeds-ok : (before now : OctetReceiving) (a b : UntilFault T) (octets : List ℕ)
      → Tells Told before now a b octets true → a.has_failed ≡ false → b.has_failed ≡ false
      → Feeds Takes Breaks faults is_last before now a.taker.now b.taker.now octets (Ok (tt {0}))
  feeds-ok before now a b octets tells had has =
      let h = tells.handed refl in
      let p = passed a b h.0 false had has h.1 in
      record {
        call = record {
          stopped = (λ e. absurd cc, λ stopped. absurd (let none = tells.stopped.1 stopped in cc));
          unchanged = λ e. absurd cc;
          later = omega (arith, p.1);
          rose = λ e. absurd cc;
          same = λ _. p.1;
        };
        stops = (λ stopped. absurd (let both = sym (tells.going refl) ∙ stopped in cc), λ none. absurd none);
        config = tells.config;
        handed = (h.0, p.0, h.2, h.3);
        prefix = λ e. absurd cc;
        chosen = tells.chosen;
      }

  -- all that is due counts as tried
  pub feeds-failed : (before now : OctetReceiving) (a b : UntilFault T) (octets : List ℕ)
      → Tells Told before now a b octets true → a.has_failed ≡ false → b.has_failed ≡ true
      → Feeds {R = Unit {0}} Takes Breaks faults is_last before (record now { has_stopped = true }) a.taker.now
      b.taker.now octets (Err Taker)
  feeds-failed before now a b octets tells had has =
      let h = tells.handed refl in
      let p = passed a b h.0 true had has h.1 in
      record {
        call = record {
          stopped = (λ e. absurd cc, λ stopped. absurd (let none = tells.stopped.1 stopped in cc));
          unchanged = λ e. absurd cc;
          later = p.1;
          rose = λ _. p.2;
          same = λ other. absurd (other refl);
        };
        stops = (λ _. tt, λ _. refl);
        config = tells.config;
        handed = tt;
        prefix = λ _. (
          h.0,
          p.0,
          λ given done few stood. handed-first before.config (given ++ octets) (done ++ h.0)
              (λ none. part-some Takes Breaks a.taker.now b.taker.now h.0 p.0 (prefix-nil done h.0 none).1)
              (h.2 given done few stood).1,
        );
        chosen = tells.chosen;
      }

  pub feeds-stopped : (before now : OctetReceiving) (a b : UntilFault T) (octets : List ℕ)
      → Tells Told before now a b octets false
      → Feeds {R = Unit {0}} Takes Breaks faults is_last before now a.taker.now b.taker.now octets (Err Stopped)
  feeds-stopped before now a b octets tells =
      let same = tells.unchanged refl in
      let taker = ap (λ (u : UntilFault T). u.taker.now) same.1 in
      record {
        call = record {
          stopped = (λ _. tells.stopped.0 refl, λ _. refl);
          unchanged = λ _. (same.0, taker);
          later = omega (arith, ap faults taker);
          rose = λ e. absurd cc;
          same = λ _. ap faults taker;
        };
        stops = (
          λ _. tt,
          λ _. ap (λ (r : OctetReceiving). r.has_stopped) same.0 ∙ tells.stopped.0 refl,
        );
        config = tells.config;
        handed = tt;
        prefix = λ e. absurd cc;
        chosen = tells.chosen;
      }

  -- ---- the end

  pub last-loan : (before now : OctetReceiving) (a b : UntilFault T) (result : Option Totals)
      → TellsLast Told before now a b result → b.taker.ghost_name ≡ a.taker.ghost_name
  last-loan before now a b (Some totals) tells =
      (passes-all took_phase broke_phase took broke faults is_last a b tells.handed.0 tells.handed.1).0
  last-loan before now a b None tells = ap (λ (u : UntilFault T). u.taker.ghost_name) (tells.unchanged refl).1

  pub finishes-ok : (before now : OctetReceiving) (a b : UntilFault T) (totals : Totals)
      → TellsLast Told before now a b (Some totals) → a.has_failed ≡ false → b.has_failed ≡ false
      → Finishes Takes Breaks faults is_last before now a.taker.now b.taker.now (Ok totals)
  finishes-ok before now a b totals tells had has =
      let h = tells.handed in
      let p = passed a b h.0 false had has h.1 in
      record {
        call = record {
          stopped = (λ e. absurd cc, λ stopped. absurd (let none = tells.stopped.1 stopped in cc));
          unchanged = λ e. absurd cc;
          later = omega (arith, p.1);
          rose = λ e. absurd cc;
          same = λ _. p.1;
        };
        stops = tells.stops;
        config = tells.config;
        handed = (h.0, p.0, h.2, h.3);
        prefix = λ e. absurd cc;
        chosen = tells.chosen;
      }

  pub finishes-failed : (before now : OctetReceiving) (a b : UntilFault T) (totals : Totals)
      → TellsLast Told before now a b (Some totals) → a.has_failed ≡ false → b.has_failed ≡ true
      → Finishes Takes Breaks faults is_last before now a.taker.now b.taker.now (Err Taker)
  finishes-failed before now a b totals tells had has =
      let h = tells.handed in
      let p = passed a b h.0 true had has h.1 in
      record {
        call = record {
          stopped = (λ e. absurd cc, λ stopped. absurd (let none = tells.stopped.1 stopped in cc));
          unchanged = λ e. absurd cc;
          later = p.1;
          rose = λ _. p.2;
          same = λ other. absurd (other refl);
        };
        stops = tells.stops;
        config = tells.config;
        handed = tt;
        prefix = λ _. (
          h.0,
          p.0,
          λ given done stood. handed-prefix before.config given (done ++ h.0) totals (h.2 given done stood),
        );
        chosen = tells.chosen;
      }
