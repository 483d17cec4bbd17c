-- The command `certify`: the certificate of the windows of the soft decoder.
use Rattle.std.specs.Prelude.{◌≡◌, ◌⊎◌, ℕ, List, [], Option, Some, None}
use Rattle.tm_base.specs.Handed.{Handed}
use Rattle.tm_base.specs.Written.{Wrote}
use Rattle.tm_config.specs.Configuration.{Configuration, unfollowed}
use Rattle.tm_conv.specs.declared.rates.Rate.{Rate}
use Rattle.tm_driver.specs.Meaning.{Meaning}
use Rattle.tm_viterbi.specs.WindowBlock.{WindowBlock}
use Rattle.tm_inner.specs.Inner.{AreInnerDue, settings_of, soft_octets}
use Rattle.tm_inner.specs.Handing.{AreHanded}
use Rattle.tm_inner.specs.Phase.{WithPhase, IsSettled, skip_of}
use Rattle.tm_cert_file.specs.Certificate.{IsCertificate}

-- the certificate of blocks of received octets after a phase; with no inner code there is none
abbrev pub TextAt : Option Rate → Configuration → ℕ → List ℕ → List WindowBlock → List ℕ → Type 0
TextAt None c phase octets blocks text = text ≡ []
TextAt (Some rate) c phase octets blocks text = IsCertificate (settings_of c rate)
    (soft_octets c phase octets) blocks text

-- the certificate of all blocks of received octets
pub record IsCertifiedAll (c : Configuration) (octets text : List ℕ) : Type 0 where
  pub handed : List (Handed WindowBlock)
  pub left : ℕ
  pub are_handed : AreHanded c octets handed left
  pub is_text : TextAt c.inner c (skip_of are_handed.chosen) octets are_handed.items text

-- the certificate of those that were handed over once the phase is settled, whatever octets follow
pub record IsCertifiedSettled (c : Configuration) (octets : List ℕ)
    (handed : List (Handed WindowBlock)) (text : List ℕ) : Type 0 where
  pub settled : IsSettled c octets
  pub are_due : WithPhase (λ phase. AreInnerDue c phase octets) c octets handed
  pub is_text : TextAt c.inner c (skip_of are_due.chosen) octets are_due.items text

-- the same before the phase is settled too, where there are none
abbrev pub IsCertifiedSoFar : Configuration → List ℕ → List (Handed WindowBlock) → List ℕ → Type 0
IsCertifiedSoFar c octets handed text =
    ((IsSettled c octets → ⊥) × (handed ≡ []) × (text ≡ []))
    ⊎ IsCertifiedSettled c octets handed text

-- the certificate of the blocks that are due
abbrev pub IsCertifiedDue : Configuration → List ℕ → List ℕ → Type 0
IsCertifiedDue c octets text = (handed : List (Handed WindowBlock))
    × IsCertifiedSoFar c octets handed text

-- what is written by a configuration; no input is partial, and nothing is bad
abbrev pub certified_meaning : Configuration → Meaning
certified_meaning c = record {
  is_output = λ octets output. IsCertifiedAll c octets output.out × (output.notes ≡ []);
  is_due = λ octets output. IsCertifiedDue c octets output.out × (output.notes ≡ []);
  is_partial = λ octets. ⊥;
  is_bad = λ octets. ⊥;
  is_in_order = λ octets output taken. Wrote taken.notes taken.notes_now [];
  stops_at_bad = ⊥;
}

-- What it writes. A phase that is to be followed is found once, since a certificate has no place
-- for octets that are dropped.
abbrev pub certify_meaning : Configuration → Meaning
certify_meaning c = certified_meaning (unfollowed c)
