-- Paths, one octet on.
use Rattle.std.proofs.Common.{◌≡◌, ℕ, ◌+◌, ◌*◌, ◌%◌, ◌<◌, ◌≤◌, Bool, List, [], ◌∷◌, ◌++◌, length, take, drop, get_or, refl, sym, ap, ◌∙◌, arith, length-append, length-drop, take-take}
use Rattle.std.proofs.lemmas.List.{append-nil, map-append, length-map, take_more, length-take-le}
use Rattle.std.proofs.lemmas.Simd.{put_chunk_whole}
use Rattle.std.proofs.lemmas.Slice.{take-put_mid}
use Rattle.std.proofs.Math.Seq.{take-append-add}
use borrow.Rule.Slice.PartMut.{put_mid}
use lib.Lanes.{put_chunk}
use Rattle.tm_base.specs.Bits.{bit_number, bits_of, bits_of_octet}
use Rattle.tm_base.proofs.Packing.{bits_of-append, length-bits_of}
use Rattle.tm_conv.specs.declared.rates.Rate.{Rate}
use Rattle.tm_conv.specs.declared.rates.Rate.TheVariants.{R12, R23, R34, R56, R78}
use Rattle.tm_conv.specs.Path.{c1, c2, next_register, path, period, register_after, step_symbols}
use Rattle.tm_conv.specs.Encoding.{Encoding, EncoderStandsFor, bit_numbers, level, levels, sent_for}
use Rattle.tm_conv.proofs.Paths.{path-append, register_after-append}
use Rattle.tm_conv.proofs.Encoded.{sent-position, position-next}

-- a path by its place in the pattern
path-position : (rate : Rate) (invert : Bool) (t s register : ℕ) (bits : List ℕ) → t % period rate ≡ s % period rate
    → path rate invert t register bits ≡ path rate invert s register bits
path-position rate invert t s register [] same = refl
path-position rate invert t s register (bit ∷ bits) same =
    let step : step_symbols rate invert t register bit ≡ step_symbols rate invert s register bit =
    sym (sent-position rate invert t (c1 register bit) (c2 register bit))
    ∙ ap (λ k. step_symbols rate invert k register bit) same
    ∙ sent-position rate invert s (c1 register bit) (c2 register bit) in
    let next : (t + 1) % period rate ≡ (s + 1) % period rate = sym (position-next rate t)
    ∙ ap (λ k. (k + 1) % period rate) same ∙ position-next rate s in
    (λ i. step i ++ path-position rate invert (t + 1) (s + 1) (next_register register bit) bits next i)

position-more : (rate : Rate) (t n : ℕ) → (t % period rate + n) % period rate ≡ (t + n) % period rate
position-more R12 t n = let e : (t % 1 + n) % 1 ≡ (t + n) % 1 = omega arith in e
position-more R23 t n = let e : (t % 2 + n) % 2 ≡ (t + n) % 2 = omega arith in e
position-more R34 t n = let e : (t % 3 + n) % 3 ≡ (t + n) % 3 = omega arith in e
position-more R56 t n = let e : (t % 5 + n) % 5 ≡ (t + n) % 5 = omega arith in e
position-more R78 t n = let e : (t % 7 + n) % 7 ≡ (t + n) % 7 = omega arith in e

position-twice : (rate : Rate) (t : ℕ) → t % period rate % period rate ≡ t % period rate
position-twice R12 t = let e : t % 1 % 1 ≡ t % 1 = omega arith in e
position-twice R23 t = let e : t % 2 % 2 ≡ t % 2 = omega arith in e
position-twice R34 t = let e : t % 3 % 3 ≡ t % 3 = omega arith in e
position-twice R56 t = let e : t % 5 % 5 ≡ t % 5 = omega arith in e
position-twice R78 t = let e : t % 7 % 7 ≡ t % 7 = omega arith in e

pub position-within : (rate : Rate) (t : ℕ) → t % period rate < period rate
position-within R12 t = let e : t % 1 < 1 = omega arith in e
position-within R23 t = let e : t % 2 < 2 = omega arith in e
position-within R34 t = let e : t % 3 < 3 = omega arith in e
position-within R56 t = let e : t % 5 < 5 = omega arith in e
position-within R78 t = let e : t % 7 < 7 = omega arith in e

-- the bits of octets as numbers
abbrev pub octet_bits : List ℕ → List ℕ
octet_bits octets = bit_numbers (bits_of octets)

octet_bits-push : (octets : List ℕ) (octet : ℕ) → octet_bits (octets ++ octet ∷ []) ≡ octet_bits octets
    ++ bit_numbers (bits_of_octet octet)
octet_bits-push octets octet =
    ap bit_numbers (bits_of-append octets (octet ∷ []) ∙ ap (λ l. bits_of octets ++ l)
    (append-nil (bits_of_octet octet)))
    ∙ map-append bit_number (bits_of octets) (bits_of_octet octet)

length-octet_bits : (octets : List ℕ) → length (octet_bits octets) ≡ 8 * length octets
length-octet_bits octets = length-map (bits_of octets) bit_number ∙ length-bits_of octets

bits-more : (octets : List ℕ) (i : ℕ) → i < length octets → octet_bits (take (i + 1) octets)
    ≡ octet_bits (take i octets) ++ bit_numbers (bits_of_octet (get_or octets i 0))
bits-more octets i within =
    ap octet_bits (take_more octets i 0 within) ∙ octet_bits-push (take i octets) (get_or octets i 0)

-- the register after one octet more
pub register-more : (register here : ℕ) (octets : List ℕ) (i : ℕ) → i < length octets
    → here ≡ register_after register (octet_bits (take i octets))
    → register_after here (bit_numbers (bits_of_octet (get_or octets i 0)))
    ≡ register_after register (octet_bits (take (i + 1) octets))
register-more register here octets i within is =
    ap (λ r. register_after r (bit_numbers (bits_of_octet (get_or octets i 0)))) is
    ∙ sym (register_after-append register (octet_bits (take i octets))
    (bit_numbers (bits_of_octet (get_or octets i 0))))
    ∙ ap (register_after register) (sym (bits-more octets i within))

-- the place in the pattern after one octet more
pub place-more : (rate : Rate) (position here i : ℕ) → here ≡ (position + 8 * i) % period rate
    → (here + 8) % period rate ≡ (position + 8 * (i + 1)) % period rate
place-more rate position here i is =
    ap (λ t. (t + 8) % period rate) is ∙ position-more rate (position + 8 * i) 8
    ∙ (let more : position + 8 * i + 8 ≡ position + 8 * (i + 1) = omega arith in ap (λ t. t % period rate) more)

-- the symbols of one octet more
path-more : (rate : Rate) (invert : Bool) (position register place here : ℕ) (octets : List ℕ) (i : ℕ)
    → i < length octets
    → place ≡ (position + 8 * i) % period rate → here ≡ register_after register (octet_bits (take i octets))
    → path rate invert position register (octet_bits (take (i + 1) octets))
    ≡ path rate invert position register (octet_bits (take i octets))
    ++ path rate invert place here (bit_numbers (bits_of_octet (get_or octets i 0)))
path-more rate invert position register place here octets i within at is =
    let bits = octet_bits (take i octets) in
    let own = bit_numbers (bits_of_octet (get_or octets i 0)) in
    let long : position + length bits ≡ position + 8 * i = omega
    (arith, length-octet_bits (take i octets), length-take-le i octets (omega arith)) in
    let same : (position + length bits) % period rate ≡ place % period rate =
    ap (λ t. t % period rate) long ∙ sym (position-twice rate (position + 8 * i))
    ∙ ap (λ t. t % period rate) (sym at) in
    ap (path rate invert position register) (bits-more octets i within)
    ∙ path-append rate invert position register bits own
    ∙ ap (λ l. path rate invert position register bits ++ l)
    (path-position rate invert (position + length bits) place (register_after register bits) own same
    ∙ ap (λ r. path rate invert place r own) (sym is))

-- a vector's prefix after what stands before it
stored : (out lanes : List ℕ) (count k kept : ℕ) → k ≡ 16 → length lanes ≡ 16 → kept ≤ 16 → count + 16 ≤ length out
    → take (count + kept) (put_mid count k out (put_chunk 0 (take k (drop count out)) lanes)) ≡ take count out
    ++ take kept lanes
stored out lanes count k kept is long most room =
    let free : length (take k (drop count out)) ≡ length lanes =
    length-take-le k (drop count out) (omega (arith, length-drop count out)) ∙ is ∙ sym long in
    let prefix : length (take count out) ≡ count = length-take-le count out (omega arith) in
    let all = put_mid count k out lanes in
    ap (λ (v : List ℕ). take (count + kept) (put_mid count k out v))
    (put_chunk_whole (take k (drop count out)) lanes free)
    ∙ sym (take-take (count + kept) (count + 16) all (omega arith))
    ∙ ap (take (count + kept)) (take-put_mid count k out lanes (count + 16) (omega (arith, long)) (omega arith))
    ∙ ap (λ n. take (n + kept) (take count out ++ lanes)) (sym prefix)
    ∙ take-append-add (take count out) lanes kept

pub symbols-more : (rate : Rate) (invert : Bool) (low position register place here : ℕ) (octets out lanes : List ℕ)
    (i count k kept : ℕ) → i < length octets
    → place ≡ (position + 8 * i) % period rate → here ≡ register_after register (octet_bits (take i octets))
    → take kept lanes ≡ levels low (path rate invert place here (bit_numbers (bits_of_octet (get_or octets i 0))))
    → k ≡ 16 → length lanes ≡ 16 → kept ≤ 16 → count + 16 ≤ length out
    → take count out ≡ levels low (path rate invert position register (octet_bits (take i octets)))
    → take (count + kept) (put_mid count k out (put_chunk 0 (take k (drop count out)) lanes))
    ≡ levels low (path rate invert position register (octet_bits (take (i + 1) octets)))
symbols-more rate invert low position register place here octets out lanes i count k kept within at is symbols whole
    long most room done =
    stored out lanes count k kept whole long most room
    ∙ (λ j. done j ++ symbols j)
    ∙ sym (map-append (level low) (path rate invert position register (octet_bits (take i octets)))
    (path rate invert place here (bit_numbers (bits_of_octet (get_or octets i 0)))))
    ∙ ap (levels low) (sym (path-more rate invert position register place here octets i within at is))

-- ---- what that means for the bits given so far

pub EncoderStandsFor-octets : (before now : Encoding) (given : List Bool) (octets : List ℕ) → now.rate ≡ before.rate
    → now.register ≡ register_after before.register (octet_bits octets)
    → now.position ≡ (before.position + 8 * length octets) % period before.rate
    → EncoderStandsFor before given → EncoderStandsFor now (given ++ bits_of octets)
EncoderStandsFor-octets before now given octets same register position stands = record {
  register = register ∙ ap (λ r. register_after r (octet_bits octets)) stands.register
      ∙ sym (register_after-append 0 (bit_numbers given) (octet_bits octets))
      ∙ ap (register_after 0) (sym (map-append bit_number given (bits_of octets)));
  position =
      position ∙ ap (λ t. (t + 8 * length octets) % period before.rate) stands.position
      ∙ position-more before.rate (length given) (8 * length octets)
      ∙ ap (λ t. t % period before.rate) (ap (λ n. length given + n) (sym (length-bits_of octets))
      ∙ sym (length-append given (bits_of octets)))
      ∙ ap (λ (r : Rate). length (given ++ bits_of octets) % period r) (sym same);
}

pub sent_for-octets : (before : Encoding) (low : ℕ) (given : List Bool) (octets symbols : List ℕ)
    → symbols ≡ levels low (path before.rate before.invert before.position before.register (octet_bits octets))
    → EncoderStandsFor before given → levels low (sent_for before.rate before.invert (given ++ bits_of octets))
    ≡ levels low (sent_for before.rate before.invert given) ++ symbols
sent_for-octets before low given octets symbols is stands =
    let numbers = bit_numbers given in
    let rate = before.rate in
    let from_none : 0 + length numbers ≡ length given = omega (arith, length-map given bit_number) in
    let same : (0 + length numbers) % period rate ≡ before.position % period rate =
    ap (λ t. t % period rate) from_none ∙ sym (position-twice rate (length given))
    ∙ ap (λ t. t % period rate) (sym stands.position) in
    ap (λ l. levels low (path rate before.invert 0 0 l)) (map-append bit_number given (bits_of octets))
    ∙ ap (levels low) (path-append rate before.invert 0 0 numbers (octet_bits octets)
    ∙ ap (λ l. path rate before.invert 0 0 numbers ++ l)
    (path-position rate before.invert (0 + length numbers) before.position (register_after 0 numbers)
    (octet_bits octets) same
    ∙ ap (λ r. path rate before.invert before.position r (octet_bits octets)) (sym stands.register)))
    ∙ map-append (level low) (path rate before.invert 0 0 numbers)
    (path rate before.invert before.position before.register (octet_bits octets))
    ∙ ap (λ l. levels low (path rate before.invert 0 0 numbers) ++ l) (sym is)
