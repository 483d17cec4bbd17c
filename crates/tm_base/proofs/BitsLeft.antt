-- What a reader of bits gives next, and what it has left then.
use Rattle.std.proofs.Common.{◌≡◌, ℕ, zero, suc, ◌-◌, ◌/◌, ◌%◌, ◌^◌, ◌<◌, Bool, List, [], ◌∷◌, ◌++◌, drop, slice_get, Some, bit_and, sym, ap, ◌∙◌, arith}
use Rattle.std.specs.Option.{option_map}
use Rattle.std.proofs.lemmas.Nat.{and_mask}
use Rattle.tm_base.specs.Bits.{low_bits, bits_of, bit_number}
use Rattle.tm_base.proofs.Packing.{low_bits-zero, low_bits-first, bit_number-odd}

-- the highest of the bits of the octet under way
pub bit-pending : (pending current : ℕ) (rest left : List Bool) → 0 < pending → low_bits pending current ++ rest ≡ left
    → Some (bit_and (current / 2 ^ (pending - 1)) 1) ≡ option_map bit_number (slice_get left 0)
bit-pending zero current rest left some view = absurd (omega arith)
bit-pending (suc pending) current rest left some view =
    let one : suc pending - 1 ≡ pending = omega arith in
    ap Some ((λ i. bit_and (current / 2 ^ one i) 1) ∙ and_mask (current / 2 ^ pending) 1
    ∙ sym (bit_number-odd (current / 2 ^ pending)))
    ∙ ap (λ (l : List Bool). option_map bit_number (slice_get (l ++ rest) 0)) (sym (low_bits-first pending current))
    ∙ ap (λ (l : List Bool). option_map bit_number (slice_get l 0)) view

pub rest-pending : (pending current : ℕ) (rest left : List Bool) → 0 < pending
    → low_bits pending current ++ rest ≡ left → low_bits (pending - 1) current ++ rest ≡ drop 1 left
rest-pending zero current rest left some view = absurd (omega arith)
rest-pending (suc pending) current rest left some view =
    let one : suc pending - 1 ≡ pending = omega arith in
    (λ i. low_bits (one i) current ++ rest)
    ∙ ap (λ (l : List Bool). drop 1 (l ++ rest)) (sym (low_bits-first pending current))
    ∙ ap (drop 1) view

-- what is left where no bit of an octet is under way
none-pending : (pending current : ℕ) (rest left : List Bool) → pending ≡ 0 → low_bits pending current ++ rest ≡ left
    → left ≡ rest
none-pending pending current rest left none view =
    sym view ∙ ap (λ l. l ++ rest) (ap (λ n. low_bits n current) none ∙ low_bits-zero current)

pub nothing-left : (pending current : ℕ) (octets : List ℕ) (left : List Bool) → pending ≡ 0 → octets ≡ []
    → low_bits pending current ++ bits_of octets ≡ left → left ≡ []
nothing-left pending current octets left none empty view =
    none-pending pending current (bits_of octets) left none view ∙ ap bits_of empty

-- the first of the bits of the next octet
pub octet-left : (pending current octet : ℕ) (octets more : List ℕ) (left : List Bool) → pending ≡ 0
    → octets ≡ octet ∷ more → low_bits pending current ++ bits_of octets ≡ left
    → low_bits 8 octet ++ bits_of more ≡ left
octet-left pending current octet octets more left none is view =
    sym (none-pending pending current (bits_of octets) left none view ∙ ap bits_of is)

pub bit-octet : (octet : ℕ) (rest left : List Bool) → octet < 256 → low_bits 8 octet ++ rest ≡ left
    → Some (octet / 128) ≡ option_map bit_number (slice_get left 0)
bit-octet octet rest left small view =
    let top : octet / 128 ≡ octet / 128 % 2 = omega arith in
    ap Some (top ∙ sym (bit_number-odd (octet / 128)))
    ∙ ap (λ (l : List Bool). option_map bit_number (slice_get (l ++ rest) 0)) (sym (low_bits-first 7 octet))
    ∙ ap (λ (l : List Bool). option_map bit_number (slice_get l 0)) view
