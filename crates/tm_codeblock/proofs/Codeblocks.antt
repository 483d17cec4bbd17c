-- A codeblock by its columns.
use Rattle.std.proofs.Common.{◌≡◌, ◌≢◌, ◌<◌, ◌+◌, ◌*◌, ◌++◌, ℕ, List, [], ◌∷◌, length, map, get_or, true, false, refl, sym, ap, ◌∙◌, arith, length-append}
use Rattle.std.specs.List.{range_with_len}
use Rattle.std.proofs.lemmas.List.{map-append, append-nil}
use Rattle.std.proofs.lemmas.List.FromFn.{get_or-map-range_with_len}
use Rattle.tm_base.specs.Bits.{AreOctets}
use Rattle.tm_base.proofs.Packing.{AreOctets-rest}
use Rattle.tm_config.specs.Configuration.{Configuration, correctable, word_length, data_length}
use Rattle.tm_config.specs.declared.values.OuterCode.TheVariants.{Uncoded}
use Rattle.tm_config.proofs.Choices.{uncoded_false}
use Rattle.tm_gf256.specs.Octet.{sent_octet, element_of}
use Rattle.tm_gf256.specs.declared.basis.Basis.{Basis}
use Rattle.tm_gf256.proofs.DualInverse.{sent_octet-element_of}
use Rattle.tm_codeblock.specs.Column.{column}
use Rattle.tm_codeblock.specs.Interleaved.{interleaved}
use Rattle.tm_codeblock.proofs.ColumnLaws.{same_columns, column-append, column-interleaved, length-interleaved, length-column}
use Rattle.tm_rs_code.specs.Code.{encode_word}
use Rattle.tm_base.specs.Marker.{marker}
use Rattle.tm_codeblock.specs.Masked.{masked}
use Rattle.tm_codeblock.specs.Cadu.{coded_octets, coded_column, codeblock_of, cadu}

-- octets read in a basis and sent in it are the same octets
pub sent-read : (basis : Basis) (octets : List ℕ) → AreOctets octets
    → map (sent_octet basis) (map (element_of basis) octets) ≡ octets
sent-read basis [] are = refl
sent-read basis (x ∷ octets) are =
    (λ i. sent_octet-element_of basis x (are 0 0 (omega arith)) i
    ∷ sent-read basis octets (AreOctets-rest x octets are) i)

-- the octets of a codeword are those of its data and of its check symbols
pub coded-is : (basis : Basis) (e : ℕ) (octets info symbols out : List ℕ) → AreOctets octets
    → info ≡ map (element_of basis) octets
    → info ++ symbols ≡ encode_word e info → out ≡ map (sent_octet basis) symbols
    → octets ++ out ≡ coded_octets basis e octets
unfolding coded_octets
coded-is basis e octets info symbols out are read codeword sent =
    (λ i. sym (sent-read basis octets are) i ++ sent i)
    ∙ sym (map-append (sent_octet basis) (map (element_of basis) octets) symbols)
    ∙ ap (λ (l : List ℕ). map (sent_octet basis) (l ++ symbols)) (sym read)
    ∙ ap (map (sent_octet basis)) (codeword ∙ ap (encode_word e) read)

-- the frame and the check symbols of its columns are its codeblock
pub codeblock-is : (c : Configuration) (frame checks : List ℕ) → c.code ≢ Uncoded → 0 < c.depth
    → length frame ≡ c.depth * data_length c → length checks ≡ c.depth * (2 * correctable c.code)
    → ((i : ℕ) → i < c.depth → column c.depth i frame ++ column c.depth i checks ≡ coded_column c frame i)
    → frame ++ checks ≡ codeblock_of c frame
unfolding codeblock_of
codeblock-is c frame checks coded some long room columns = rw (uncoded_false c.code coded) (
    same_columns c.depth (frame ++ checks) (interleaved c.depth (word_length c) coded_columns) some
    (length-append frame checks ∙ sizes ∙ sym (length-interleaved c.depth (word_length c) coded_columns))
    (λ i below. column-append c.depth (data_length c) i frame checks below long ∙ columns i below
    ∙ sym (column-interleaved c.depth (word_length c) i coded_columns below (ap length (at i below) ∙ size i below)
    ∙ at i below)))
  where
    coded_columns : List (List ℕ)
    coded_columns = map (coded_column c frame) (range_with_len 0 c.depth)

    sizes : length frame + length checks ≡ c.depth * word_length c
    sizes = omega (arith, long, room)

    at : (i : ℕ) → i < c.depth → get_or coded_columns i [] ≡ coded_column c frame i
    at i below = get_or-map-range_with_len (coded_column c frame) 0 c.depth i i [] below (omega arith)

    size : (i : ℕ) → i < c.depth → length (coded_column c frame i) ≡ word_length c
    size i below =
        ap length (sym (columns i below)) ∙ length-append (column c.depth i frame) (column c.depth i checks)
        ∙ (λ k. length-column c.depth (data_length c) i frame below long k + length-column c.depth
        (2 * correctable c.code) i checks below room k)

-- with no outer code the frame is its codeblock
pub codeblock-uncoded : (c : Configuration) (frame rest : List ℕ) → c.code ≡ Uncoded → length rest ≡ 0
    → frame ++ rest ≡ codeblock_of c frame
unfolding codeblock_of
codeblock-uncoded c frame [] none empty = rw none (append-nil frame)
codeblock-uncoded c frame (x ∷ rest) none empty = absurd (omega arith)

-- the unit, with and without the randomizer
pub unit-masked : (c : Configuration) (frame prefix codeblock sent : List ℕ) → c.randomize ≡ true → prefix ≡ marker
    → codeblock ≡ codeblock_of c frame → sent ≡ masked codeblock → prefix ++ sent ≡ cadu c frame
unfolding cadu codeblock_of
unit-masked c frame prefix codeblock sent on first is masks = rw on (λ i. first i ++ (masks ∙ ap masked is) i)

pub unit-plain : (c : Configuration) (frame prefix codeblock : List ℕ) → c.randomize ≡ false → prefix ≡ marker
    → codeblock ≡ codeblock_of c frame → prefix ++ codeblock ≡ cadu c frame
unfolding cadu codeblock_of
unit-plain c frame prefix codeblock off first is = rw off (λ i. first i ++ is i)
