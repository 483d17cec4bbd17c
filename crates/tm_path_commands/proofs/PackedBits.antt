-- Bits that are packed to octets as they come.
use Rattle.std.proofs.Common.{◌≡◌, ℕ, ◌+◌, ◌-◌, ◌*◌, ◌/◌, ◌%◌, ◌^◌, ◌<◌, ◌≤◌, Bool, List, [], ◌∷◌, ◌++◌, length, drop, take, min, get_or, set, refl, sym, ap, ◌∙◌, subst, arith, append_assoc, length-append, bit_or, bit_and}
use mir.Val.{bool_byte}
use Rattle.std.proofs.lemmas.Grind.{take-set_at}
use Rattle.std.proofs.lemmas.List.{append-nil, drop_min, length-take-le, take_more}
use Rattle.std.proofs.lemmas.List.Elements.{All-append, All-nil}
use Rattle.std.proofs.lemmas.Nat.{and_mask, div-mul-add, mod-mul-add, mul-le, one_shl, or_shifted, pow_pos}
use Rattle.std.proofs.Math.Nat.{pow-le-pow_right}
use Rattle.std.proofs.Math.Pow.{mod-mod-pow}
use Rattle.std.proofs.Math.Seq.{drop-append_seam}
use Rattle.tm_base.specs.Bits.{low_bits, bits_of, bits_of_octet, bit_number, number_of, octets_of, AreOctets}
use Rattle.tm_base.proofs.Handing.{HandedOver-append}
use Rattle.tm_base.proofs.Packing.{bool_byte-bit_number, low_bits-number_of, length-low_bits, length-bits_of, bits_of-append, length-octets_of}
use Rattle.tm_base.proofs.LowBits.{low_bits-same, low_bits-split}
use Rattle.tm_driver.specs.Writing.{Text, notes_of, out_of}
use Rattle.tm_driver.proofs.Writing.{notes_of-append, out_of-append}
use Rattle.tm_inner.proofs.DueBits.{drop-split}
use Rattle.tm_path_commands.specs.Packing.{Gives, Packs}

-- the lowest bits of a number's lowest octet, and of the one that is made of it
low_bits-octet : (count number value : ℕ) → count ≤ 8 → value ≡ bit_and number 255
    → low_bits count value ≡ low_bits count number
low_bits-octet count number value few is =
    let eight : 8 ≡ (8 - count) + count = omega arith in
    low_bits-same count value number
    (ap (λ n. n % 2 ^ count) (is ∙ and_mask number 8) ∙ ap (λ n. number % 2 ^ n % 2 ^ count) eight
    ∙ mod-mod-pow number (8 - count) count)

-- ---- bits of an octet after others

pub joined : (last octet pending count value : ℕ) → count ≤ 8 → last < 256
    → value ≡ bit_or (last * 2 ^ count % 2 ^ 32) (octet % (1 * 2 ^ count % 2 ^ 32))
    → low_bits (pending + count) value ≡ low_bits pending last ++ low_bits count octet
joined last octet pending count value few small is =
    let unit : 1 * 2 ^ count % 2 ^ 32 ≡ 2 ^ count = one_shl count 32 (omega arith) in
    let some = pow_pos count in
    let rest : ℕ = octet % 2 ^ count in
    let below : rest < 2 ^ count = omega (arith, some) in
    let fits = mul-le last (2 ^ count) 255 (2 ^ 8) (omega arith) (pow-le-pow_right {n = 2} (omega arith) few) in
    let shifted : last * 2 ^ count % 2 ^ 32 ≡ last * 2 ^ count = omega (arith, fits) in
    let sum : value ≡ last * 2 ^ count + rest = is ∙ (λ i. bit_or (shifted i) (octet % unit i))
    ∙ or_shifted last count rest below in
    let prefix : value / 2 ^ count ≡ last = ap (λ n. n / 2 ^ count) sum ∙ div-mul-add last (2 ^ count) rest below in
    let back : value % 2 ^ count ≡ octet % 2 ^ count = ap (λ n. n % 2 ^ count) sum
    ∙ mod-mul-add last (2 ^ count) rest below in
    low_bits-split pending count value ∙ (λ i. low_bits pending (prefix i) ++ low_bits-same count value octet back i)

-- they begin no octet, or one is whole with them
pub add-part : (whole : List Bool) (last octet pending count value now : ℕ) → count ≤ 8 → last < 256
    → value ≡ bit_or (last * 2 ^ count % 2 ^ 32) (octet % (1 * 2 ^ count % 2 ^ 32))
    → pending + count < 8 → now ≡ bit_and value 255
    → whole ++ low_bits (pending + count) now ≡ (whole ++ low_bits pending last) ++ low_bits count octet
add-part whole last octet pending count value now few small is less low =
    ap (λ l. whole ++ l) (low_bits-octet (pending + count) value now (omega arith) low
    ∙ joined last octet pending count value few small is)
    ∙ sym (append_assoc whole (low_bits pending last) (low_bits count octet))

pub add-whole : (room : List ℕ) (place last octet pending count value : ℕ) → place < length room → count ≤ 8
    → last < 256 → value ≡ bit_or (last * 2 ^ count % 2 ^ 32) (octet % (1 * 2 ^ count % 2 ^ 32)) → 8 ≤ pending + count
    → pending < 8 → bits_of (take (place + 1) (set room place (bit_and (value / 2 ^ (pending + count - 8)) 255)))
    ++ low_bits (pending + count - 8) (bit_and value 255)
    ≡ (bits_of (take place room) ++ low_bits pending last) ++ low_bits count octet
add-whole room place last octet pending count value within few small is full before =
    let left : ℕ = pending + count - 8 in
    let next : ℕ = bit_and (value / 2 ^ left) 255 in
    let octets : List ℕ = take place room in
    let rest : List Bool = low_bits left (bit_and value 255) in
    let all : 8 + left ≡ pending + count = omega (arith, full) in
    ap (λ l. bits_of l ++ rest) (take-set_at room place (place + 1) next refl within)
    ∙ ap (λ l. l ++ rest) (bits_of-append octets (next ∷ [])
    ∙ ap (λ l. bits_of octets ++ l) (append-nil (low_bits 8 next)))
    ∙ append_assoc (bits_of octets) (low_bits 8 next) rest
    ∙ ap (λ l. bits_of octets ++ l) (
    (λ i. low_bits-octet 8 (value / 2 ^ left) next (omega arith) refl i ++ low_bits-octet left value
    (bit_and value 255) (omega (arith, few, before)) refl i)
    ∙ sym (low_bits-split 8 left value) ∙ ap (λ n. low_bits n value) all
    ∙ joined last octet pending count value few small is
    )
    ∙ sym (append_assoc (bits_of octets) (low_bits pending last) (low_bits count octet))

-- ---- whole octets, and the bits after them

-- fewer bits than an octet come to none
pub octets-none : (bits : List Bool) → length bits < 8 → octets_of bits ≡ []
octets-none bits few = empty (octets_of bits) (omega (arith, length-octets_of bits))
  where
    empty : (octets : List ℕ) → length octets ≡ 0 → octets ≡ []
    empty [] none = refl
    empty (octet ∷ octets) none = absurd (omega arith)

-- no octets have no bits
pub no-octets : (octets : List ℕ) (bits : List Bool) → bits_of octets ++ bits ≡ [] → octets ≡ []
no-octets [] bits none = refl
no-octets (octet ∷ octets) bits none = absurd (omega (
  arith,
  ap length none,
  length-append (bits_of (octet ∷ octets)) bits,
  length-bits_of (octet ∷ octets),
))

-- ---- the bits of texts, and then of more

pub octets-after : (xs ys : List Text) → AreOctets (out_of xs) → AreOctets (out_of ys) → AreOctets (out_of (xs ++ ys))
octets-after xs ys are more =
    subst AreOctets (sym (out_of-append xs ys)) (All-append (λ octet. octet < 256) (out_of xs) (out_of ys) are more)

pub bits-after : (xs ys : List Text) (all more middle now : List Bool) → bits_of (out_of xs) ++ middle ≡ all
    → bits_of (out_of ys) ++ now ≡ middle ++ more → bits_of (out_of (xs ++ ys)) ++ now ≡ all ++ more
bits-after xs ys all more middle now first rest =
    ap (λ l. bits_of l ++ now) (out_of-append xs ys) ∙ ap (λ l. l ++ now) (bits_of-append (out_of xs) (out_of ys))
    ∙ append_assoc (bits_of (out_of xs)) (bits_of (out_of ys)) now ∙ ap (λ l. bits_of (out_of xs) ++ l) rest
    ∙ sym (append_assoc (bits_of (out_of xs)) middle more) ∙ ap (λ l. l ++ more) first

module _ {T : Type 0} (took : T → Text → T → Type 0) where
  pub gives-more : (a b c x y : List Bool) (s t u : T) (xs ys : List Text) → Gives took a s xs x b t
      → Gives took b t ys y c u → Gives took a s (xs ++ ys) (x ++ y) c u
  gives-more a b c x y s t u xs ys p q = record {
    handed = HandedOver-append took s t u xs ys p.handed q.handed;
    are_octets = octets-after xs ys p.are_octets q.are_octets;
    all = bits-after xs ys (a ++ x) y b c p.all q.all ∙ append_assoc a x y;
  }

  -- nothing is given yet
  pub packs-none : (bits more now : List Bool) (t : T) → now ≡ bits ++ more → Packs took bits t more now t
  packs-none bits more now t is = record {
    texts = [];
    gives = record { handed = refl; are_octets = All-nil (λ octet. octet < 256); all = is };
    silent = refl;
  }

  pub packs-more : (a b c x y : List Bool) (s t u : T) → Packs took a s x b t → Packs took b t y c u
      → Packs took a s (x ++ y) c u
  packs-more a b c x y s t u p q = record {
    texts = p.texts ++ q.texts;
    gives = gives-more a b c x y s t u p.texts q.texts p.gives q.gives;
    silent = notes_of-append p.texts q.texts ∙ ap (λ l. l ++ notes_of q.texts) p.silent ∙ q.silent;
  }

-- a bit by itself
pub one-bit : (byte : ℕ) (bit : Bool) → byte ≡ bool_byte bit → low_bits 1 byte ≡ bit ∷ []
one-bit byte bit is =
    let number : number_of (bit ∷ []) ≡ bit_number bit = omega arith in
    ap (low_bits 1) (is ∙ bool_byte-bit_number bit ∙ sym number) ∙ low_bits-number_of (bit ∷ [])

-- ---- octets after the first bits

-- an octet's lowest bits are those after the others
lowest-after : (odd octet : ℕ) → odd ≤ 8 → low_bits (8 - odd) octet ≡ drop odd (bits_of_octet octet)
lowest-after odd octet few =
    let all : 8 ≡ odd + (8 - odd) = omega arith in
    let size = length-low_bits odd (octet / 2 ^ (8 - odd)) in
    sym (
    ap (λ n. drop odd (low_bits n octet)) all ∙ ap (drop odd) (low_bits-split odd (8 - odd) octet)
    ∙ ap (λ n. drop n (low_bits odd (octet / 2 ^ (8 - odd)) ++ low_bits (8 - odd) octet)) (sym size)
    ∙ drop-append_seam (low_bits odd (octet / 2 ^ (8 - odd))) (low_bits (8 - odd) octet)
    )

-- one octet more, of which `skipped` bits are skipped
pub octet-after : (skip k skipped : ℕ) (octets : List ℕ) → skipped ≡ min (skip - 8 * k) 8 → k < length octets
    → drop skip (bits_of (take k octets)) ++ low_bits (8 - skipped) (get_or octets k 0) ≡ drop skip
    (bits_of (take (k + 1) octets))
octet-after skip k skipped octets is some =
    let octet : ℕ = get_or octets k 0 in
    let bits : List Bool = bits_of_octet octet in
    let before : List Bool = bits_of (take k octets) in
    let size : length before ≡ 8 * k = length-bits_of (take k octets) ∙ ap (λ n. 8 * n) (length-take-le k octets
    (omega (arith, some))) in
    let least : min (skip - length before) (length bits) ≡ skipped =
    omega (arith, is, size, length-low_bits 8 octet) in
    ap (λ l. drop skip before ++ l) (lowest-after skipped octet (omega (arith, is))
    ∙ ap (λ n. drop n bits) (sym least) ∙ drop_min (skip - length before) bits)
    ∙ sym (drop-split skip before bits)
    ∙ ap (drop skip) (ap (λ l. before ++ l) (sym (append-nil bits)) ∙ sym (bits_of-append (take k octets) (octet ∷ []))
    ∙ ap bits_of (sym (take_more octets k 0 some)))
