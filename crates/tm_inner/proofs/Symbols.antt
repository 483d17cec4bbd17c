-- The symbols for a longer list go on from those for its prefix.
use Rattle.std.proofs.Common.{◌≡◌, ℕ, List, [], ◌∷◌, ◌++◌, ◌+◌, ◌*◌, ◌<◌, ◌≤◌, take, get_or, Bool, true, false, Option, Some, None, length, drop, refl, sym, ◌∙◌, ap, arith}
use Rattle.std.proofs.Math.Seq.{drop-append_seam}
use Rattle.std.proofs.lemmas.List.{append-nil, length-map, map-append, take_more}
use Rattle.std.proofs.lemmas.Slice.{take-put_mid}
use borrow.Rule.Slice.PartMut.{put_mid}
use Rattle.tm_base.specs.Bits.{bit_number, bits_of, bits_of_octet, octets_of, AreOctets}
use Rattle.tm_base.specs.Pieces.{further, GoesOn}
use Rattle.tm_base.proofs.Packing.{bits_of-append, length-bits_of, length-low_bits, octets_of-append, octets_of-bits_of}
use Rattle.tm_config.specs.Configuration.{Configuration}
use Rattle.tm_conv.specs.declared.rates.Rate.{Rate}
use Rattle.tm_conv.specs.Path.{path, register_after}
use Rattle.tm_conv.specs.Encoding.{bit_numbers, level, levels}
use Rattle.tm_conv.proofs.Paths.{path-append}
use Rattle.tm_inner.specs.Symbols.{low_level, plain_symbols, symbols_by, symbols_of_octets}
use Rattle.tm_inner.specs.Sending.{encoded, spread}

-- where a longer list's due is that of its prefix and then `rest`, `rest` is what is due beyond
pub further-is : (due : List ℕ → List ℕ) (given piece rest : List ℕ) → due (given ++ piece) ≡ due given ++ rest
    → further due given piece ≡ rest
further-is due given piece rest more = ap (drop (length (due given))) more ∙ drop-append_seam (due given) rest

on : (due : List ℕ → List ℕ) (given piece rest : List ℕ) → due (given ++ piece) ≡ due given ++ rest
    → due (given ++ piece) ≡ due given ++ further due given piece
on due given piece rest more = more ∙ ap (λ (l : List ℕ). due given ++ l) (sym (further-is due given piece rest more))

-- ---- octets as they are

octets-append : (given piece : List ℕ) → octets_of (bits_of (given ++ piece)) ≡ octets_of (bits_of given)
    ++ octets_of (bits_of piece)
octets-append given piece =
    ap octets_of (bits_of-append given piece)
    ∙ octets_of-append (bits_of given) (bits_of piece) (omega (arith, length-bits_of given))

-- an octet for each bit
pub spread-append : (low : ℕ) (given piece : List ℕ) → spread low (given ++ piece) ≡ spread low given
    ++ spread low piece
spread-append low given piece =
    ap (λ l. levels low (bit_numbers l)) (bits_of-append given piece)
    ∙ ap (levels low) (map-append bit_number (bits_of given) (bits_of piece))
    ∙ map-append (level low) (bit_numbers (bits_of given)) (bit_numbers (bits_of piece))

-- one octet more, whose bits are put after the others
pub spread-next : (low k count : ℕ) (octets room eight : List ℕ) → k < length octets → 8 * k ≤ length room
    → eight ≡ levels low (bit_numbers (bits_of_octet (get_or octets k 0)))
    → take (8 * k) room ≡ spread low (take k octets)
    → take (8 * (k + 1)) (put_mid (8 * k) count room eight) ≡ spread low (take (k + 1) octets)
spread-next low k count octets room eight within fits is done =
    let octet = get_or octets k 0 in
    let numbers = bit_numbers (bits_of_octet octet) in
    let size : length eight ≡ 8 = ap length is ∙ length-map numbers (level low)
    ∙ length-map (bits_of_octet octet) bit_number ∙ length-low_bits 8 octet in
    take-put_mid (8 * k) count room eight (8 * (k + 1)) (omega (arith, size)) fits
    ∙ (λ i. done i ++ is i)
    ∙ ap (λ l. spread low (take k octets) ++ levels low (bit_numbers l)) (sym (append-nil (bits_of_octet octet)))
    ∙ sym (spread-append low (take k octets) (octet ∷ []))
    ∙ ap (spread low) (sym (take_more octets k 0 within))

-- ---- symbols

-- the octets of the symbols that follow
next : Rate → Bool → ℕ → List ℕ → List ℕ → List ℕ
next rate invert low given piece =
    levels low (path rate invert (0 + length (bit_numbers (bits_of given)))
    (register_after 0 (bit_numbers (bits_of given))) (bit_numbers (bits_of piece)))

encoded-append : (rate : Rate) (invert : Bool) (low : ℕ) (given piece : List ℕ)
    → encoded rate invert low (given ++ piece) ≡ encoded rate invert low given ++ next rate invert low given piece
unfolding next
encoded-append rate invert low given piece =
    let prefix = bit_numbers (bits_of given) in
    let back = bit_numbers (bits_of piece) in
    ap (λ l. levels low (path rate invert 0 0 l)) (ap bit_numbers (bits_of-append given piece)
    ∙ map-append bit_number (bits_of given) (bits_of piece))
    ∙ ap (levels low) (path-append rate invert 0 0 prefix back)
    ∙ map-append (level low) (path rate invert 0 0 prefix) (path rate invert (0 + length prefix)
    (register_after 0 prefix) back)

pub encoded-goes_on : (rate : Rate) (invert : Bool) (low : ℕ) → GoesOn (encoded rate invert low)
encoded-goes_on rate invert low given piece =
    on (encoded rate invert low) given piece (next rate invert low given piece)
    (encoded-append rate invert low given piece)

-- ---- by the configuration

plain-goes_on : (pack : Bool) (c : Configuration) → GoesOn (λ octets. plain_symbols pack c (bits_of octets))
plain-goes_on true c given piece =
    on (λ octets. octets_of (bits_of octets)) given piece (octets_of (bits_of piece)) (octets-append given piece)
plain-goes_on false c given piece =
    on (spread (low_level c.soft)) given piece (spread (low_level c.soft) piece)
    (spread-append (low_level c.soft) given piece)

goes_on-by : (rate : Option Rate) (c : Configuration) → GoesOn (λ octets. symbols_by rate c (bits_of octets))
goes_on-by None c given piece = plain-goes_on c.pack c given piece
goes_on-by (Some rate) c given piece = encoded-goes_on rate _ _ given piece

pub symbols-go_on : (c : Configuration) → GoesOn (symbols_of_octets c)
symbols-go_on c = goes_on-by c.inner c

-- with no inner code octets are sent as they are
pub octets-due : (given piece : List ℕ) → AreOctets piece → further (λ octets. octets_of (bits_of octets)) given piece
    ≡ piece
octets-due given piece small =
    further-is (λ octets. octets_of (bits_of octets)) given piece (octets_of (bits_of piece))
    (octets-append given piece) ∙ octets_of-bits_of piece small

-- or an octet for each of their bits
pub spread-due : (low : ℕ) (given piece : List ℕ) → further (spread low) given piece ≡ spread low piece
spread-due low given piece = further-is (spread low) given piece (spread low piece) (spread-append low given piece)

plain-none : (pack : Bool) (c : Configuration) → plain_symbols pack c (bits_of []) ≡ []
plain-none true c = refl
plain-none false c = refl

none-by : (rate : Option Rate) (c : Configuration) → symbols_by rate c (bits_of []) ≡ []
none-by None c = plain-none c.pack c
none-by (Some rate) c = refl

pub symbols-none : (c : Configuration) → symbols_of_octets c [] ≡ []
symbols-none c = none-by c.inner c
