-- Laws of the sequence: its recurrence, its first bits, its period.
use Rattle.std.proofs.Common.{◌≡◌, ℕ, zero, suc, ◌+◌, ◌*◌, Bool, true, List, [], ◌∷◌, length, get_or, refl, sym, ap, ◌∙◌, arith, ◌<◌, false, lit<}
use Rattle.std.proofs.Math.Bool.{xor}
use Rattle.tm_codeblock.specs.Sequence.{sequence_bit}

-- the recurrence: s[k+8] = s[k+7] + s[k+5] + s[k+3] + s[k] modulo 2
pub sequence_bit-next : (k : ℕ) → sequence_bit (k + 8) ≡ xor
    (xor (xor (sequence_bit (k + 7)) (sequence_bit (k + 5))) (sequence_bit (k + 3))) (sequence_bit k)
unfolding sequence_bit
sequence_bit-next k =
    let eight : k + 8 ≡ suc (suc (suc (suc (suc (suc (suc (suc k))))))) = omega arith in
    let seven : suc (suc (suc (suc (suc (suc (suc k)))))) ≡ k + 7 = omega arith in
    let five : suc (suc (suc (suc (suc k)))) ≡ k + 5 = omega arith in
    let three : suc (suc (suc k)) ≡ k + 3 = omega arith in
    ap sequence_bit eight ∙ (λ i. xor (xor (xor (sequence_bit (seven i)) (sequence_bit (five i)))
    (sequence_bit (three i))) (sequence_bit k))

-- a register of eight bits, which gives its oldest bit at each step and takes the next one
unfoldable pub generated : ℕ → Bool → Bool → Bool → Bool → Bool → Bool → Bool → Bool → List Bool
generated zero a b c d e f g h = []
generated (suc count) a b c d e f g h = a ∷ generated count b c d e f g h (xor (xor (xor h f) d) a)

-- `count` bits of the sequence, from its bit k on
unfoldable pub sequence_bits : ℕ → ℕ → List Bool
sequence_bits k zero = []
sequence_bits k (suc count) = sequence_bit k ∷ sequence_bits (suc k) count

-- the register gives the sequence
pub generated-sequence_bits : (count k : ℕ) → generated count (sequence_bit k) (sequence_bit (k + 1))
    (sequence_bit (k + 2)) (sequence_bit (k + 3)) (sequence_bit (k + 4)) (sequence_bit (k + 5)) (sequence_bit (k + 6))
    (sequence_bit (k + 7)) ≡ sequence_bits k count
unfolding generated sequence_bits
generated-sequence_bits zero k = refl
generated-sequence_bits (suc count) k =
    let one : k + 1 ≡ suc k = omega arith in
    let two : k + 2 ≡ suc k + 1 = omega arith in
    let three : k + 3 ≡ suc k + 2 = omega arith in
    let four : k + 4 ≡ suc k + 3 = omega arith in
    let five : k + 5 ≡ suc k + 4 = omega arith in
    let six : k + 6 ≡ suc k + 5 = omega arith in
    let seven : k + 7 ≡ suc k + 6 = omega arith in
    let eight : k + 8 ≡ suc k + 7 = omega arith in
    ap (λ l. sequence_bit k ∷ l)
    ((λ i. generated count (sequence_bit (one i)) (sequence_bit (two i)) (sequence_bit (three i))
    (sequence_bit (four i)) (sequence_bit (five i)) (sequence_bit (six i)) (sequence_bit (seven i))
    ((sym (sequence_bit-next k) ∙ ap sequence_bit eight) i))
    ∙ generated-sequence_bits count (suc k))

pub get_or-sequence_bits : (count k n : ℕ) (d : Bool) → n < count
    → get_or (sequence_bits k count) n d ≡ sequence_bit (k + n)
unfolding sequence_bits
get_or-sequence_bits zero k n d within = absurd (omega arith)
get_or-sequence_bits (suc count) k zero d within = let same : k ≡ k + 0 = omega arith in ap sequence_bit same
get_or-sequence_bits (suc count) k (suc n) d within =
    let same : suc k + n ≡ k + suc n = omega arith in get_or-sequence_bits count (suc k) n d (omega arith)
    ∙ ap sequence_bit same

pub length-sequence_bits : (count k : ℕ) → length (sequence_bits k count) ≡ count
unfolding sequence_bits
length-sequence_bits zero k = refl
length-sequence_bits (suc count) k = ap suc (length-sequence_bits count (suc k))

-- the first bits, from a register of eight ones
pub sequence_bits-generated : (count : ℕ) → sequence_bits 0 count
    ≡ generated count true true true true true true true true
unfolding sequence_bit
sequence_bits-generated count = sym (generated-sequence_bits count 0)

pub sequence_bit-generated : (count n : ℕ) → n < count → sequence_bit n
    ≡ get_or (generated count true true true true true true true true) n false
sequence_bit-generated count n within =
    let same : n ≡ 0 + n = omega arith in
    ap sequence_bit same ∙ sym (get_or-sequence_bits count 0 n false within)
    ∙ ap (λ l. get_or l n false) (sequence_bits-generated count)

-- where eight bits from i on are as those from j on, all bits from i on are as those from j on
go_on : (k i j : ℕ)
    → sequence_bit i ≡ sequence_bit j
    → sequence_bit (suc i) ≡ sequence_bit (suc j)
    → sequence_bit (suc (suc i)) ≡ sequence_bit (suc (suc j))
    → sequence_bit (suc (suc (suc i))) ≡ sequence_bit (suc (suc (suc j)))
    → sequence_bit (suc (suc (suc (suc i)))) ≡ sequence_bit (suc (suc (suc (suc j))))
    → sequence_bit (suc (suc (suc (suc (suc i))))) ≡ sequence_bit (suc (suc (suc (suc (suc j)))))
    → sequence_bit (suc (suc (suc (suc (suc (suc i)))))) ≡ sequence_bit (suc (suc (suc (suc (suc (suc j))))))
    → sequence_bit (suc (suc (suc (suc (suc (suc (suc i)))))))
    ≡ sequence_bit (suc (suc (suc (suc (suc (suc (suc j)))))))
    → sequence_bit (k + i) ≡ sequence_bit (k + j)
unfolding sequence_bit
go_on zero i j e0 e1 e2 e3 e4 e5 e6 e7 =
    let first : 0 + i ≡ i = omega arith in
    let second : j ≡ 0 + j = omega arith in
    ap sequence_bit first ∙ e0 ∙ ap sequence_bit second
go_on (suc k) i j e0 e1 e2 e3 e4 e5 e6 e7 =
    let first : suc k + i ≡ k + suc i = omega arith in
    let second : k + suc j ≡ suc k + j = omega arith in
    ap sequence_bit first
    ∙ go_on k (suc i) (suc j) e1 e2 e3 e4 e5 e6 e7 (λ t. xor (xor (xor (e7 t) (e5 t)) (e3 t)) (e0 t))
    ∙ ap sequence_bit second

seen : (n : ℕ) → n < 263 → get_or (generated 263 true true true true true true true true) n false ≡ true
    → sequence_bit n ≡ true
seen n within is = sequence_bit-generated 263 n within ∙ is

-- the sequence repeats after 255 bits
pub sequence_bit-period : (k : ℕ) → sequence_bit (k + 255) ≡ sequence_bit k
unfolding sequence_bit generated xor
sequence_bit-period k =
    let same : k + 0 ≡ k = omega arith in
    go_on k 255 0 (seen 255 (lit< tt) refl) (seen 256 (lit< tt) refl) (seen 257 (lit< tt) refl)
    (seen 258 (lit< tt) refl) (seen 259 (lit< tt) refl) (seen 260 (lit< tt) refl) (seen 261 (lit< tt) refl)
    (seen 262 (lit< tt) refl)
    ∙ ap sequence_bit same

pub sequence_bit-periods : (times k : ℕ) → sequence_bit (k + 255 * times) ≡ sequence_bit k
sequence_bit-periods zero k = let same : k + 255 * 0 ≡ k = omega arith in ap sequence_bit same
sequence_bit-periods (suc times) k =
    let more : k + 255 * suc times ≡ k + 255 * times + 255 = omega arith in
    ap sequence_bit more ∙ sequence_bit-period (k + 255 * times) ∙ sequence_bit-periods times k

pub sequence_bits-periods : (count times k : ℕ) → sequence_bits (k + 255 * times) count ≡ sequence_bits k count
unfolding sequence_bits
sequence_bits-periods zero times k = refl
sequence_bits-periods (suc count) times k =
    let next : suc (k + 255 * times) ≡ suc k + 255 * times = omega arith in
    (λ t. sequence_bit-periods times k t ∷ (ap (λ n. sequence_bits n count) next
    ∙ sequence_bits-periods count times (suc k)) t)
