-- An inner sender that is given nothing, and one piece after another.
use Rattle.std.proofs.Common.{◌≡◌, ℕ, Bool, true, false, List, [], ◌++◌, Option, Some, None, refl, sym, ap, ◌∙◌, subst}
use Rattle.std.specs.Option.{is_some}
use Rattle.tm_base.specs.Bits.{AreOctets, bits_of}
use Rattle.tm_base.specs.Written.{Wrote, WrotePrefix}
use Rattle.tm_base.specs.Pieces.{further}
use Rattle.tm_base.proofs.Pieces.{fed-none, fed-more, fed-prefix, fed-prefix_of_longer}
use Rattle.tm_config.specs.Configuration.{Configuration}
use Rattle.tm_conv.specs.declared.rates.Rate.{Rate}
use Rattle.tm_conv.specs.Encoding.{Encoding}
use Rattle.tm_inner.specs.Symbols.{low_level, plain_symbols, symbols_by, symbols_of_octets}
use Rattle.tm_inner.specs.Sending.{EncodesFor, InnerSending, IsEncoderOf, InnerSenderStandsFor, InnerSends, InnerSendsPrefix, InnerMakes, KeepsFor, encoded, spread}
use Rattle.tm_inner.proofs.Symbols.{octets-due, spread-due, symbols-go_on}
use Rattle.tm_inner.proofs.Coding.{GoesOnBy, symbols-due}

pub sends-none : (sender : InnerSending) (taken : Option (List ℕ)) → InnerSends sender sender taken taken []
sends-none sender taken = record {
  config = refl;
  fed = fed-none InnerSenderStandsFor (symbols_of_octets sender.config) sender taken;
}

-- it goes on, and what it made is written, or a prefix of it
due-by : (a b c : InnerSending) (piece symbols : List ℕ) → b.config ≡ a.config → InnerMakes b c piece symbols
    → (given : List ℕ) → InnerSenderStandsFor b given → symbols ≡ further (symbols_of_octets a.config) given piece
due-by a b c piece symbols same m given stood =
    sym (m.due given stood) ∙ ap (λ (k : Configuration). further (symbols_of_octets k) given piece) same

pub sends-more : (a b c : InnerSending) (taken here now : Option (List ℕ)) (first piece symbols : List ℕ)
    → InnerSends a b taken here first → InnerMakes b c piece symbols → Wrote here now symbols
    → InnerSends a c taken now (first ++ piece)
sends-more a b c taken here now first piece symbols p m wrote = record {
  config = m.config ∙ p.config;
  fed = fed-more InnerSenderStandsFor (symbols_of_octets a.config) (symbols-go_on a.config) a b c taken here now
      first piece p.fed (record {
        stands = m.stands;
        written = λ given stood. subst (Wrote here now) (due-by a b c piece symbols p.config m given stood) wrote;
      });
}

pub sends-prefix : (a b c : InnerSending) (taken here now : Option (List ℕ)) (first piece rest symbols : List ℕ)
    → InnerSends a b taken here first → InnerMakes b c piece symbols → WrotePrefix here now symbols
    → InnerSendsPrefix a taken now ((first ++ piece) ++ rest)
sends-prefix a b c taken here now first piece rest symbols p m wrote =
    let due = symbols_of_octets a.config in
    let on = symbols-go_on a.config in
    fed-prefix_of_longer InnerSenderStandsFor due on a taken now (first ++ piece) rest
    (fed-prefix InnerSenderStandsFor due on a b taken here now first piece p.fed (record {
      prefix = λ given stood. subst (WrotePrefix here now) (due-by a b c piece symbols p.config m given stood) wrote;
    }))

-- ---- what is due

-- with an encoder
pub encoder-due : (c : Configuration) (before now : Encoding) (low : ℕ) (piece symbols given : List ℕ)
    → IsEncoderOf c (Some before) → low ≡ low_level c.soft → GoesOnBy before now low piece symbols
    → EncodesFor before given → further (symbols_of_octets c) given piece ≡ symbols
encoder-due c before now low piece symbols given of same on stood =
    subst (λ (r : Option Rate). further (λ o. symbols_by r c (bits_of o)) given piece ≡ symbols) (sym of.0)
    (subst (λ (i : Bool). further (encoded before.rate i (low_level c.soft)) given piece ≡ symbols) of.1
    (subst (λ (n : ℕ). further (encoded before.rate before.invert n) given piece ≡ symbols) same
    (symbols-due before now low piece symbols given on stood)))

-- with no inner code
plain-due : (c : Configuration) (pack : Bool) (given piece written : List ℕ) → IsEncoderOf c None → pack ≡ c.pack
    → further (λ octets. plain_symbols pack c (bits_of octets)) given piece ≡ written
    → further (symbols_of_octets c) given piece ≡ written
plain-due c pack given piece written none is due =
    subst (λ (rate : Option Rate). further (λ octets. symbols_by rate c (bits_of octets)) given piece ≡ written)
    (sym none)
    (subst (λ (packed : Bool). further (λ octets. plain_symbols packed c (bits_of octets)) given piece ≡ written)
    is due)

pub octets-are : (c : Configuration) (given piece : List ℕ) → IsEncoderOf c None → true ≡ c.pack → AreOctets piece
    → further (symbols_of_octets c) given piece ≡ piece
octets-are c given piece none packed small =
    plain-due c true given piece piece none packed (octets-due given piece small)

pub bits-are : (c : Configuration) (low : ℕ) (given piece : List ℕ) → IsEncoderOf c None → false ≡ c.pack
    → low ≡ low_level c.soft → further (symbols_of_octets c) given piece ≡ spread low piece
bits-are c low given piece none each same =
    plain-due c false given piece (spread low piece) none each
    (spread-due (low_level c.soft) given piece ∙ ap (λ (n : ℕ). spread n piece) (sym same))

-- ---- octets that are sent as they are

no-encoder : (e : Option Encoding) → is_some e ≡ false → e ≡ None
no-encoder None none = refl
no-encoder (Some encoder) none = absurd cc

pub plain-makes : (s : InnerSending) (octets : List ℕ) → IsEncoderOf s.config s.encoder → is_some s.encoder ≡ false
    → true ≡ s.config.pack → AreOctets octets → InnerMakes s s octets octets
plain-makes s octets of none packed small =
    let is = no-encoder s.encoder none in
    record {
      config = refl;
      stands = λ given stood. subst (λ (e : Option Encoding). KeepsFor e (given ++ octets)) (sym is) tt;
      due = λ given stood. octets-are s.config given octets (subst (IsEncoderOf s.config) is of) packed small;
    }
