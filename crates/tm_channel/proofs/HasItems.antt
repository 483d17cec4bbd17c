-- Received octets have items.
use Rattle.std.proofs.Common.{◌≡◌, ℕ, Bool, true, false, cond, List, [], ◌∷◌, refl, ap, sym, ◌∙◌}
use Rattle.tm_config.specs.Configuration.{Configuration, correctable}
use Rattle.tm_config.specs.Accepted.{IsAccepted}
use Rattle.tm_inner.specs.Inner.{Inner}
use Rattle.tm_inner.specs.SymbolPlaces.{symbol_at}
use Rattle.tm_rs_code.specs.Nearest.{IsNearest, Nearest}
use Rattle.tm_rs_code.specs.Nearest.Nearest.{Fixed as FixedWord, Beyond as BeyondWord}
use Rattle.tm_rs_code.proofs.HasNearest.{has_nearest}
use Rattle.tm_rs.specs.declared.answers.Answer.{Answer}
use Rattle.tm_rs.specs.declared.answers.Answer.TheVariants.{Fixed, Beyond}
use Rattle.tm_sync.specs.declared.found.Found.{Found}
use Rattle.tm_codeblock.specs.ReceivedCodeblock.{codeblock_at, received_columns, frame_of, places_in}
use Rattle.tm_channel.specs.Items.{ItemValue, IsRepaired, AreNearest, is_given, IsItem, AreItemsOf, HaveSymbols}
use Rattle.tm_channel.specs.Receive.{Receive}

is_uncorrectable : Answer → Bool
is_uncorrectable (Fixed d) = false
is_uncorrectable Beyond = true

-- a column that is repaired need not stay
pub fixed-left : (d : ℕ) (column word : List ℕ) → Fixed d ≡ Beyond → word ≡ column
unfolding is_uncorrectable
fixed-left d column word same = absurd (let no : false ≡ true = ap is_uncorrectable same in cc)

-- what is nearest, as an answer and a word
as-answer : (c : Configuration) (column : List ℕ) (nearest : Nearest)
    → IsNearest (correctable c.code) c.repair column nearest
    → (answer : Answer) × (word : List ℕ) × IsRepaired c column answer word
as-answer c column (FixedWord word d) is = (Fixed d, word, record { nearest = is; left = fixed-left d column word })
as-answer c column BeyondWord is = (Beyond, column, record { nearest = is; left = λ _. refl })

pub has-answers : (c : Configuration) (columns : List (List ℕ)) → (answers : List Answer) × (words : List (List ℕ))
    × AreNearest c columns answers words
has-answers c [] = ([], [], tt)
has-answers c (column ∷ columns) =
    let nearest = has_nearest (correctable c.code) c.repair column in
    let one = as-answer c column nearest.0 nearest.1 in
    let more = has-answers c columns in
    (one.0 ∷ more.0, one.1 ∷ more.1, (one.2, more.2))

has-item : (c : Configuration) (f : Found) (symbol : ℕ) (codeblock : List ℕ) → (item : ItemValue)
    × IsItem c f codeblock item × (item.symbol ≡ symbol)
has-item c f symbol codeblock =
    let h = has-answers c (received_columns c codeblock) in (
      record {
        found = f;
        symbol = symbol;
        answers = h.0;
        frame = cond (is_given c h.0) (frame_of c codeblock h.1) [];
      },
      record { place = refl; words = h.1; nearest = h.2; frame = refl },
      refl,
    )

pub has-items-of : (c : Configuration) (at : ℕ → ℕ) (bits : List Bool) (fs : List Found) → (items : List ItemValue)
    × AreItemsOf c bits fs items × HaveSymbols at items
has-items-of c at bits [] = ([], tt, tt)
has-items-of c at bits (f ∷ fs) =
    let one = has-item c f (at f.place) (codeblock_at c bits f) in
    let more = has-items-of c at bits fs in (
      one.0 ∷ more.0,
      (one.1, more.1),
      (one.2 ∙ sym (ap (λ (v : Found). at v.place) one.1.place), more.2),
    )

-- octets come to bits
abbrev pub HasBits : Type 0
HasBits =
    (c : Configuration) (phase : ℕ) (octets : List ℕ) → IsAccepted c → (bits : List Bool) × Inner c phase octets bits

pub has-items : HasBits → (c : Configuration) (phase : ℕ) (octets : List ℕ) → IsAccepted c → (items : List ItemValue)
    × Receive c phase octets items
has-items exists c phase octets ok =
    let bits = exists c phase octets ok in
    let h = has-items-of c (symbol_at c phase bits.1.blocks) bits.0 (places_in c bits.0) in
    (h.0, record { bits = bits.0; inner = bits.1; are_items = h.1; symbols = h.2 })
