-- How certifying ends.
use Rattle.std.proofs.Common.{◌≡◌, inl, inr, ℕ, ◌∙◌, ◌++◌, refl, sym, ap, subst, false, Bool, List, [], ◌∷◌, map, Option, Some, None}
use Rattle.std.proofs.lemmas.List.{append-nil}
use Rattle.tm_base.specs.Handed.{Handed, Item}
use Rattle.tm_config.specs.Accepted.{IsAccepted}
use Rattle.tm_config.specs.Configuration.{Configuration}
use Rattle.tm_config.proofs.Choices.{never_both}
use Rattle.tm_conv.specs.declared.rates.Rate.{Rate}
use Rattle.tm_driver.specs.Meaning.{Ends, Taken, taken_by}
use Rattle.tm_driver.specs.Staged.{StagedTo}
use Rattle.tm_driver.specs.Statuses.{is_sink_fault}
use Rattle.tm_driver.specs.Writing.{Text, Out, WroteTexts, notes_of, output_of}
use Rattle.tm_driver.specs.declared.ending.Ending.{Ending}
use Rattle.tm_driver.specs.declared.ending.Outcome.{Outcome}
use Rattle.tm_driver.specs.declared.ending.Outcome.TheVariants.{Done, Bad, LeftOver}
use Rattle.tm_driver.proofs.Staged.{Early, OutcomeShows, ends-staged, staged-texts}
use Rattle.tm_driver.proofs.Writing.{are_out-more, stops-alone, wrote-alone}
use Rattle.tm_viterbi.specs.Blocks.{AreBlocksOf}
use Rattle.tm_viterbi.specs.Settings.{Settings}
use Rattle.tm_viterbi.specs.WindowBlock.{WindowBlock}
use Rattle.tm_windows.specs.declared.choosing.Chosen.{Chosen}
use Rattle.tm_inner.specs.Inner.{AreInnerDue, BlocksAt, settings_of, soft_octets}
use Rattle.tm_inner.specs.InnerDecoding.{InnerDecoding, IsDrained}
use Rattle.tm_inner.specs.Phase.{IsChosenBy, IsSettled, IsSoFarBy, phase_octets, skip_of, with_phase}
use Rattle.tm_inner.specs.Receiving.{FirstAt}
use Rattle.tm_inner.proofs.DecodedWindows.{decoded-by}
use Rattle.tm_inner.proofs.Decoders.{stands-due, stands-first}
use Rattle.tm_inner.proofs.Unfollowed.{blocks-unfollowed}
use Rattle.tm_cert_file.specs.Certificate.{AreCertified, IsCertificate}
use Rattle.tm_path_commands.specs.Certify.{IsCertifiedAll, IsCertifiedSoFar, TextAt, certified_meaning}
use Rattle.tm_path_commands.specs.Certifying.{Certifies, CertifiesAll, CertifiesDue, certifier}
use Rattle.tm_path_commands.proofs.CertifiedWindows.{Longer, certified-first, nothing-at, text-longer, text-phase}
use Rattle.tm_path_commands.proofs.FewHanded.{DueFirst}

-- ---- what was handed over goes on

record GoesOn (chosen other : Option Chosen) (items all : List WindowBlock) : Type 0 where
  skip : skip_of chosen ≡ skip_of other
  rest : List WindowBlock
  split : all ≡ items ++ rest

items-on : (items all : List WindowBlock) (more : List (Handed WindowBlock)) → map Item items ++ more ≡ map Item all
    → (rest : List WindowBlock) × (all ≡ items ++ rest)
items-on [] all more is = (all, refl)
items-on (x ∷ items) [] more is = absurd cc
items-on (x ∷ items) (y ∷ all) more is =
    let same : y ≡ x = cc in
    let tail : map Item items ++ more ≡ map Item all = cc in
    let h = items-on items all more tail in
    (h.0, (λ i. same i ∷ h.1 i))

goes-on : (c : Configuration) (soft soft_now : List ℕ) (chosen other : Option Chosen) (items all : List WindowBlock)
    (more : List (Handed WindowBlock)) → IsChosenBy c soft chosen → IsChosenBy c soft_now other
    → with_phase chosen items ++ more ≡ with_phase other all → GoesOn chosen other items all
goes-on c soft soft_now None None items all more is now same =
    let h = items-on items all more same in record { skip = refl; rest = h.0; split = h.1 }
goes-on c soft soft_now None (Some b) items all more is now same = absurd (never_both c.phase is now.0)
goes-on c soft soft_now (Some a) None items all more is now same = absurd (never_both c.phase now is.0)
goes-on c soft soft_now (Some a) (Some b) items all more is now same =
    let skip : a.skip ≡ b.skip = cc in
    let tail : map Item items ++ more ≡ map Item all = cc in
    let h = items-on items all more tail in
    record { skip = skip; rest = h.0; split = h.1 }

-- ---- the certificate of all goes on from that of the first windows

abbrev pub HasCertificate : Type 0
HasCertificate =
    (s : Settings) (octets : List ℕ) (blocks : List WindowBlock) (left : ℕ) → AreBlocksOf s octets blocks left
    → (text : List ℕ) × IsCertificate s octets blocks text

abbrev pub OneCertificate : Type 0
OneCertificate =
    (rate : Rate) (invert : Bool) (starts : Option ℕ) (t : ℕ) (octets : List ℕ) (blocks : List WindowBlock)
    (text other : List ℕ) → AreCertified rate invert starts t octets blocks text
    → AreCertified rate invert starts t octets blocks other → text ≡ other

text-rest : HasCertificate → OneCertificate → (r : Option Rate) (c : Configuration) (phase : ℕ) (octets : List ℕ)
    (first rest all : List WindowBlock) (left : ℕ) (text : List ℕ) → c.follow ≡ false
    → BlocksAt r c phase octets all left → all ≡ first ++ rest → TextAt r c phase octets first text
    → (more : List ℕ) × TextAt r c phase octets all (text ++ more)
text-rest has one None c phase octets first rest all left text plain are split t = ([], ap (λ (l : List ℕ). l ++ []) t)
text-rest has one (Some rate) c phase octets first rest all left text plain are split t =
    let s = settings_of c rate in
    let soft = soft_octets c phase octets in
    let whole = has s soft all left (blocks-unfollowed c rate soft all left plain are) in
    let cut = certified-first s.rate s.invert _ 0 soft first rest whole.0
    (subst (λ (l : List WindowBlock). IsCertificate s soft l whole.0) split whole.1) in
    let same = one s.rate s.invert _ 0 soft first cut.0 text cut.2 t in (
      cut.1,
      subst (IsCertificate s soft all) (cut.3 ∙ ap (λ (l : List ℕ). l ++ cut.1) same) whole.1,
    )

text-empty : (r : Option Rate) (c : Configuration) (phase : ℕ) (octets : List ℕ) (blocks : List WindowBlock)
    (text : List ℕ) → blocks ≡ [] → TextAt r c phase octets blocks text → text ≡ []
text-empty None c phase octets blocks text none t = t
text-empty (Some rate) c phase octets blocks text none t =
    subst (λ (l : List WindowBlock). IsCertificate (settings_of c rate) (soft_octets c phase octets) l text) none t

-- ---- what it shows

-- what was given is due, and goes on whatever octets come
module _ (due-first : DueFirst) (has : HasCertificate) (one : OneCertificate) (longer : Longer) where
  rest-of : (c : Configuration) (octets more : List ℕ) (chosen : Option Chosen) (blocks : List WindowBlock)
      (text : List ℕ) → IsAccepted c → c.follow ≡ false → IsSettled c octets
      → IsChosenBy c (phase_octets c octets) chosen → AreInnerDue c (skip_of chosen) octets blocks
      → FirstAt c.inner c (skip_of chosen) octets blocks → TextAt c.inner c (skip_of chosen) octets blocks text
      → (last : List ℕ) × IsCertifiedAll c (octets ++ more) (text ++ last)
  rest-of c octets more chosen blocks text accepted plain settled choice due first t =
      let handed = with_phase chosen blocks in
      let later = octets ++ more in
      let all = due-first c octets more handed accepted (inr (
        settled,
        record {
          chosen = chosen;
          choice = choice;
          items = blocks;
          are_items = due;
          are = refl;
        },
      )) in
      let h = all.2 in
      let on = goes-on c (phase_octets c octets) (phase_octets c later) chosen h.chosen blocks h.items all.0 choice
      h.choice h.are in
      let now = text-phase c.inner c (skip_of chosen) (skip_of h.chosen) later blocks text (inr on.skip)
      (text-longer longer c.inner c (skip_of chosen) octets more blocks text plain first t) in
      let rest = text-rest has one c.inner c (skip_of h.chosen) later blocks on.rest h.items all.1 text plain
      h.are_items on.split now in
      (rest.0, record { handed = handed ++ all.0; left = all.1; are_handed = h; is_text = rest.1 })

  rest-none : (c : Configuration) (octets more : List ℕ) → IsAccepted c → c.follow ≡ false
      → (IsSettled c octets → ⊥) → (last : List ℕ) × IsCertifiedAll c (octets ++ more) last
  rest-none c octets more accepted plain unsettled =
      let all = due-first c octets more [] accepted (inl (unsettled, refl)) in
      let h = all.2 in
      let phase = skip_of h.chosen in
      let rest = text-rest has one c.inner c phase (octets ++ more) [] h.items h.items all.1 [] plain h.are_items refl
      (nothing-at c.inner c phase (octets ++ more)) in
      (rest.0, record { handed = all.0; left = all.1; are_handed = h; is_text = rest.1 })

  early-by : (d : InnerDecoding) (start : Option ℕ) (octets : List ℕ) (texts : List Text) → IsDrained d.queue
      → IsSoFarBy d.config (phase_octets d.config octets) d.chosen → Certifies (certifier d start) octets texts
      → Early (certified_meaning d.config) (CertifiesAll d.config) octets texts
  early-by d start octets texts drained so_far s =
      elim (decoded-by d octets s.blocks s.stands so_far (stands-due d octets s.blocks s.stands drained)) as
      (λ _. Early (certified_meaning c) (CertifiesAll c) octets texts) [
        | inl none ↦ (let empty = text-empty c.inner c phase octets s.blocks s.text none.1 s.is_text in record {
          due = shown [] (inl (none.0, refl, empty));
          rest = λ more.
              let r = rest-none c octets more s.accepted s.unfollowed none.0 in
              on more r.0
              (subst (λ (l : List ℕ). IsCertifiedAll c (octets ++ more) (l ++ r.0)) (sym empty) r.1);
        })
        | inr due ↦ record {
          due = shown (with_phase d.chosen s.blocks) (inr (record {
            settled = due.0;
            are_due = record {
              chosen = d.chosen;
              choice = due.1;
              items = s.blocks;
              are_items = due.2;
              are = refl;
            };
            is_text = s.is_text;
          }));
          rest = λ more.
              let r = rest-of c octets more d.chosen s.blocks s.text s.accepted s.unfollowed due.0 due.1 due.2
              (stands-first d octets s.blocks s.stands) s.is_text in
              on more r.0 r.1;
        }
      ]
    where
      c : Configuration
      c = d.config

      phase : ℕ
      phase = skip_of d.chosen

      shown : (handed : List (Handed WindowBlock)) → IsCertifiedSoFar c octets handed s.text
          → (certified_meaning c).is_due octets (output_of texts)
      shown handed is =
          ((handed, subst (IsCertifiedSoFar c octets handed) (sym s.are.out) is), s.are.notes)

      on : (more last : List ℕ) → IsCertifiedAll c (octets ++ more) (s.text ++ last)
          → (rest : List Text) × CertifiesAll c (octets ++ more) (texts ++ rest)
      on more last is = (
        Out last ∷ [],
        record {
          text = s.text ++ last;
          is_text = is;
          are = are_out-more texts (Out last ∷ []) s.text last s.are (record { out = append-nil last; notes = refl });
        },
      )

  certify-early : (c : Configuration) (d : InnerDecoding) (start : Option ℕ) (octets : List ℕ) (texts : List Text)
      → CertifiesDue c (certifier d start) octets texts → Early (certified_meaning c) (CertifiesAll c) octets texts
  certify-early c d start octets texts h =
      subst (λ (k : Configuration). Early (certified_meaning k) (CertifiesAll k) octets texts) h.config
      (early-by d start octets texts h.drained h.so_far h.certifies)

certify-output : (c : Configuration) (octets : List ℕ) (all : List Text) → CertifiesAll c octets all
    → (certified_meaning c).is_output octets (output_of all)
certify-output c octets all are = (subst (IsCertifiedAll c octets) (sym are.are.out) are.is_text, are.are.notes)

certify-whole : (c : Configuration) (octets : List ℕ) (texts : List Text) (by : Outcome)
    → (by ≡ Done) × CertifiesAll c octets texts
    → CertifiesAll c octets texts × OutcomeShows (certified_meaning c) octets by
certify-whole c octets texts Bad whole = let both = whole.0 in cc both
certify-whole c octets texts LeftOver whole = let both = whole.0 in cc both
certify-whole c octets texts Done whole = (whole.1, (λ none. none, λ none. none))

pub certify-ends : DueFirst → HasCertificate → OneCertificate → Longer → {S : Type 0} (inner : S → InnerDecoding)
    (start : S → Option ℕ) (c k : Configuration) (limit : ℕ) → k ≡ c → limit ≡ c.limit → (now : S) (ending : Ending)
    (octets : List ℕ) (texts : List Text) (taken : Taken) (noted : Option (List ℕ))
    → StagedTo (λ (t : S) o x. CertifiesDue k (certifier (inner t) (start t)) o x)
    (λ (t : S) (o : List ℕ) (x : List Text). ⊥) (λ (t : S) o x by. (by ≡ Done) × CertifiesAll k o x) limit now ending
    octets texts
    → WroteTexts (is_sink_fault ending) texts taken
    → Ends ending (certified_meaning c) c.limit octets (taken_by taken.out taken.out_now noted noted)
certify-ends due-first has one longer {S} inner start c k limit same within now ending octets texts taken noted staged
    wrote =
    let Stands : Configuration → S → List ℕ → List Text → Type 0 =
    λ k t o x. CertifiesDue k (certifier (inner t) (start t)) o x in
    let Stopped : S → List ℕ → List Text → Type 0 = λ t o x. ⊥ in
    let Finished : Configuration → S → List ℕ → List Text → Outcome → Type 0 =
    λ k t o x by. (by ≡ Done) × CertifiesAll k o x in
    let d = subst (λ (n : ℕ). StagedTo (Stands c) Stopped (Finished c) n now ending octets texts) within
    (subst (λ (k : Configuration). StagedTo (Stands k) Stopped (Finished k) limit now ending octets texts) same
    staged) in
    let quiet = staged-texts (Stands c) Stopped (Finished c) c.limit now (λ x. notes_of x ≡ [])
    (λ o x t. t.certifies.are.notes) (λ o x none. absurd none) (λ o x by f. f.1.are.notes) ending octets texts d in
    ends-staged (Stands c) Stopped (Finished c) (certified_meaning c) c.limit (CertifiesAll c) (certify-output c)
    (λ o all t are stops. stops-alone all t are.are.notes stops) now
    (λ o x within t. certify-early due-first has one longer c (inner now) (start now) o x t)
    (λ o x within none. absurd none) (λ o x by within f. certify-whole c o x by f) ending octets texts
    (taken_by taken.out taken.out_now noted noted) d
    (wrote-alone (is_sink_fault ending) texts taken noted quiet wrote)
