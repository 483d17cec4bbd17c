-- A taker of blocks to which they are handed on until it fails.
use Rattle.std.proofs.Common.{◌≡◌, ℕ, Bool, true, false, List, [], ◌∷◌, ◌++◌, sym, ap, ◌∙◌, refl, subst, arith, Ok, Err}
use Rattle.tm_base.specs.Calls.{taker_call}
use Rattle.tm_base.specs.Handed.{Handed}
use Rattle.tm_base.specs.Outside.{Rose}
use Rattle.tm_base.specs.Takers.{HandedOver, HandedPart}
use Rattle.tm_base.proofs.Handing.{HandedOver-one, HandedPart-after, HandedPart-first}
use Rattle.tm_config.specs.Configuration.{Configuration}
use Rattle.tm_viterbi.specs.WindowBlock.{WindowBlock}
use Rattle.tm_windows.specs.declared.decoder.FeedError.TheVariants.{Taker}
use Rattle.tm_inner.specs.Calls.{Calls, Feeds, Finishes}
use Rattle.tm_inner.specs.Handing.{AreHandedDue, AreHandedFirst, ReadsLast}
use Rattle.tm_inner.specs.InnerDecoding.{InnerDecoding}
use Rattle.tm_inner.specs.Phase.{IsChosenSoFar}
use Rattle.tm_inner.specs.Receiving.{HasHanded, Hands, InnerReceiving}
use Rattle.tm_inner.specs.UntilFault.{Passes}
use Rattle.tm_inner.specs.declared.decoder.InnerEnd.{InnerEnd}
use Rattle.tm_inner.specs.declared.until_fault.UntilFault.{UntilFault}
use Rattle.tm_inner.proofs.DecoderPieces.{all-prefix}
use Rattle.tm_inner.proofs.DecoderReads.{handed-due}
use Rattle.tm_inner.proofs.ReadOctets.{handed-first}

-- it was handed all of these, or failed at one of them, or had failed before
abbrev pub PassesAll : {T I : Type 0} → (took broke : T → I → T → Type 0) → (faults : T → ℕ) → (is_last : T → Type 0)
    → List I → Bool → T → Bool → T → Type 0
PassesAll took broke faults is_last items =
    Passes (λ before now. HandedOver took before items now) (λ before now. HandedPart took broke before items now)
    faults is_last

module _ {T I : Type 0} (took broke : T → I → T → Type 0) (faults : T → ℕ) (is_last : T → Type 0) where
  pub passes-none : (had has : Bool) (before now : T) → has ≡ had → now ≡ before
      → PassesAll took broke faults is_last [] had before has now
  passes-none true has before now same is = (same, is)
  passes-none false has before now same is =
      subst (λ f. PassesAll took broke faults is_last [] false before f now) (sym same) (sym is, ap faults is)

  pub passes-more : (item : I) (items : List I) (first second third : Bool) (before middle now : T)
      → Passes (λ a b. took a item b) (λ a b. broke a item b) faults is_last first before second middle
      → PassesAll took broke faults is_last items second middle third now
      → PassesAll took broke faults is_last (item ∷ items) first before third now
  passes-more item items true second third before middle now one rest =
      let still = subst (λ f. PassesAll took broke faults is_last items f middle third now) one.0 rest in
      (still.0, still.1 ∙ one.1)
  passes-more item items false false false before middle now one rest = ((middle, one.0, rest.0), rest.1 ∙ one.1)
  passes-more item items false false true before middle now one rest = (
    HandedPart-after took broke before middle now (item ∷ []) items (HandedOver-one took before middle item one.0)
        rest.0,
    omega (arith, rest.1, one.1),
    subst (λ n. Rose n (faults now) (is_last now)) one.1 rest.2,
  )
  passes-more item items false true third before middle now one rest =
      subst (λ f. PassesAll took broke faults is_last (item ∷ items) false before f now) (sym rest.0)
      (subst (λ t. PassesAll took broke faults is_last (item ∷ items) false before true t) (sym rest.1)
      (HandedPart-first took broke before middle item items one.0, one.1, one.2))

module _ {T : Type 0} (took broke : T → Handed WindowBlock → T → Type 0) (faults : T → ℕ) (is_last : T → Type 0) where
  abbrev pub Told : UntilFault T → Handed WindowBlock → UntilFault T → Type 0
  Told a item b = (b.taker.ghost_name ≡ a.taker.ghost_name) × Passes (λ before now. took before item now)
      (λ before now. broke before item now) faults is_last a.has_failed a.taker.now b.has_failed b.taker.now

  passes-all : (a b : UntilFault T) (handed : List (Handed WindowBlock)) → HandedOver Told a handed b
      → (b.taker.ghost_name ≡ a.taker.ghost_name)
      × PassesAll took broke faults is_last handed a.has_failed a.taker.now b.has_failed b.taker.now
  passes-all a b [] same = (
    ap (λ (u : UntilFault T). u.taker.ghost_name) (sym same),
    passes-none took broke faults is_last a.has_failed b.has_failed a.taker.now b.taker.now
        (ap (λ (u : UntilFault T). u.has_failed) (sym same)) (ap (λ (u : UntilFault T). u.taker.now) (sym same)),
  )
  passes-all a b (item ∷ handed) h =
      let rest = passes-all h.0 b handed h.2 in (
        rest.0 ∙ h.1.0,
        passes-more took broke faults is_last item handed a.has_failed h.0.has_failed b.has_failed a.taker.now
            h.0.taker.now b.taker.now h.1.1 rest.1,
      )

  pub same-loan : (a b : UntilFault T) (handed : List (Handed WindowBlock)) → HandedOver Told a handed b
      → b.taker.ghost_name ≡ a.taker.ghost_name
  same-loan a b handed h = (passes-all a b handed h).0

  -- of one that had not failed before
  passed : (a b : UntilFault T) (handed : List (Handed WindowBlock)) (has : Bool) → a.has_failed ≡ false
      → b.has_failed ≡ has → HandedOver Told a handed b
      → PassesAll took broke faults is_last handed false a.taker.now has b.taker.now
  passed a b handed has had is h =
      subst (λ f. PassesAll took broke faults is_last handed false a.taker.now f b.taker.now) is
      (subst (λ f. PassesAll took broke faults is_last handed f a.taker.now b.has_failed b.taker.now) had
      (passes-all a b handed h).1)

  -- ---- the calls of a receiver

  call-ok : {R : Type 0} (before now : InnerReceiving) (taker taker_now : T) (handed : List (Handed WindowBlock))
      (value : R) → before.has_stopped ≡ false → PassesAll took broke faults is_last handed false taker false taker_now
      → Calls before now (taker_call took broke faults is_last taker taker_now) (Ok value)
  call-ok before now taker taker_now handed value going p = record {
    stopped = (λ e. absurd cc, λ stopped. absurd (let both = sym stopped ∙ going in cc));
    unchanged = λ e. absurd cc;
    later = omega (arith, p.1);
    rose = λ e. absurd cc;
    same = λ _. p.1;
  }

  call-failed : {R : Type 0} (before now : InnerReceiving) (taker taker_now : T)
      (handed : List (Handed WindowBlock)) → before.has_stopped ≡ false
      → PassesAll took broke faults is_last handed false taker true taker_now
      → Calls {R = R} before now (taker_call took broke faults is_last taker taker_now) (Err Taker)
  call-failed before now taker taker_now handed going p = record {
    stopped = (λ e. absurd cc, λ stopped. absurd (let both = sym stopped ∙ going in cc));
    unchanged = λ e. absurd cc;
    later = p.1;
    rose = λ _. p.2;
    same = λ other. absurd (other refl);
  }

  -- something was tried
  not-nothing : (prefix rest : List (Handed WindowBlock)) (next : Handed WindowBlock) → prefix ++ next ∷ rest ≡ [] → ⊥
  not-nothing [] rest next none = absurd cc
  not-nothing (x ∷ prefix) rest next none = absurd cc

  part-some : (taker last : T) (done items : List (Handed WindowBlock)) → HandedPart took broke taker items last
      → done ++ items ≡ [] → ⊥
  part-some taker last [] items h none = not-nothing h.prefix h.rest h.next (sym h.split ∙ none)
  part-some taker last (x ∷ done) items h none = absurd cc

  -- the phase is the one that is chosen with these octets
  abbrev pub Chooses : InnerReceiving → InnerDecoding → List ℕ → Type 0
  Chooses before now octets = (given : List ℕ) (done : List (Handed WindowBlock)) → HasHanded before.decoder given done
      → before.has_stopped ≡ false → IsChosenSoFar before.decoder.config (given ++ octets) now.chosen

  module _ (before : InnerReceiving) (now : InnerDecoding) (a b : UntilFault T) (going : before.has_stopped ≡ false)
      (had : a.has_failed ≡ false) where
    pub feeds-ok : (octets : List ℕ) → b.has_failed ≡ false → now.config ≡ before.decoder.config
        → Chooses before now octets → Hands Told HasHanded before.decoder now a b octets
        → Feeds before (record { decoder = now; has_stopped = b.has_failed }) octets
        (taker_call took broke faults is_last a.taker.now b.taker.now) (Ok (tt {0}))
    feeds-ok octets has config chosen h =
        let p = passed a b h.more false had has h.handed in record {
          call = call-ok before _ a.taker.now b.taker.now h.more (tt {0}) going p;
          stops = (λ stopped. absurd (let both = sym stopped ∙ has in cc), λ none. absurd none);
          config = config;
          chosen = chosen;
          handed = (
            h.more,
            p.0,
            λ given done few stood.
                let there = h.stands given done few stood in (
                  there,
                  subst (λ (c : Configuration). AreHandedDue c (given ++ octets) (done ++ h.more)) config
                      (handed-due now (given ++ octets) (done ++ h.more) there),
                ),
          );
          prefix = λ e. absurd cc;
        }

    -- all that is due counts as tried
    pub feeds-failed : (octets : List ℕ) → b.has_failed ≡ true → now.config ≡ before.decoder.config
        → Chooses before now octets → Hands Told HasHanded before.decoder now a b octets
        → Feeds {R = Unit {0}} before (record { decoder = now; has_stopped = b.has_failed }) octets
        (taker_call took broke faults is_last a.taker.now b.taker.now) (Err Taker)
    feeds-failed octets has config chosen h =
        let p = passed a b h.more true had has h.handed in record {
          call = call-failed before _ a.taker.now b.taker.now h.more going p;
          stops = (λ _. tt, λ _. has);
          config = config;
          chosen = chosen;
          handed = tt;
          prefix = λ _. (
            h.more,
            p.0,
            λ given done few stood.
                subst (λ (c : Configuration). AreHandedFirst c (given ++ octets) (done ++ h.more)) config
                (handed-first now (given ++ octets) (done ++ h.more) (h.stands given done few stood)
                (part-some a.taker.now b.taker.now done h.more p.0)),
          );
        }

    pub finishes-ok : (end : InnerEnd) → b.has_failed ≡ false → ReadsLast Told before.decoder now a b end
        → Finishes before (record { decoder = now; has_stopped = true })
        (taker_call took broke faults is_last a.taker.now b.taker.now) (Ok end)
    finishes-ok end has r =
        let p = passed a b r.last false had has r.handed in record {
          call = call-ok before _ a.taker.now b.taker.now r.last end going p;
          stops = refl;
          config = r.config;
          chosen = λ given done stood _. r.chosen given done stood;
          handed = (r.last, p.0, r.all);
          prefix = λ e. absurd cc;
          left = r.left;
        }

    pub finishes-failed : (end : InnerEnd) → b.has_failed ≡ true → ReadsLast Told before.decoder now a b end
        → Finishes before (record { decoder = now; has_stopped = true })
        (taker_call took broke faults is_last a.taker.now b.taker.now) (Err Taker)
    finishes-failed end has r =
        let p = passed a b r.last true had has r.handed in record {
          call = call-failed before _ a.taker.now b.taker.now r.last going p;
          stops = refl;
          config = r.config;
          chosen = λ given done stood _. r.chosen given done stood;
          handed = tt;
          prefix = λ _. (
            r.last,
            p.0,
            λ given done stood. all-prefix before.decoder.config given (done ++ r.last) end.leftover
                (r.all given done stood).0,
          );
          left = tt;
        }
