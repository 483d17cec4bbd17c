-- At rate 1/2 the symbols of six steps show the register that they began from.
use Rattle.std.proofs.Common.{◌≡◌, ℕ, zero, suc, ◌+◌, ◌*◌, ◌%◌, ◌<◌, ◌≤◌, ◌==◌, ◌&&◌, Bool, true, false, cond, slice_index, List, [], ◌∷◌, ◌++◌, length, refl, sym, ap, ◌∙◌, arith, ◌⊎◌, inl, inr}
use Rattle.std.proofs.lemmas.Bool.{cases_order}
use Rattle.std.proofs.lemmas.Bool.Decides.{nat_tests}
use Rattle.tm_conv.specs.declared.rates.Rate.TheVariants.{R12}
use Rattle.tm_conv.specs.Path.{AreBits, next_register, c1, c2, sent_c2, step_symbols, path}
use Rattle.tm_conv.proofs.Clean.{AreDigits, digits, same-path}

-- both sums of each step, before inversion
raw : ℕ → List ℕ → List ℕ
raw r [] = []
raw r (b ∷ bits) = c1 r b ∷ c2 r b ∷ raw (next_register r b) bits

-- the register before the first of twelve symbols
register_of : List ℕ → ℕ
register_of (a ∷ b ∷ c ∷ d ∷ e ∷ f ∷ g ∷ h ∷ i ∷ j ∷ k ∷ l ∷ rest) =
    32 * ((c + d + f + h + i + k + l) % 2) + 16 * ((a + b + d + f + g + i + j) % 2) + 8 *
    ((a + b + d + f + j + k + l) % 2)
    + 4 * ((a + b + d + e + f + g + i + k + l) % 2) + 2 * ((a + b + c + d + f + h + i + k + l) % 2) +
    (b + d + e + h + i + k + l) % 2
register_of rest = 0

-- whether all numbers below `count` pass
all_of : ℕ → (ℕ → Bool) → Bool
all_of zero test = true
all_of (suc count) test = test count && all_of count test

and_parts : (a b : Bool) → (a && b) ≡ true → (a ≡ true) × (b ≡ true)
and_parts true b e = (refl, e)
and_parts false b e = absurd cc

all_of-at : (count : ℕ) (test : ℕ → Bool) (k : ℕ) → all_of count test ≡ true → k < count → test k ≡ true
unfolding all_of
all_of-at zero test k e below = absurd (omega arith)
all_of-at (suc count) test k e below =
    go (λ e less. all_of-at count test k e less) (and_parts (test count) (all_of count test) e) (cases_order k count)
  where
    go : (all_of count test ≡ true → k < count → test k ≡ true) → (test count ≡ true) × (all_of count test ≡ true)
        → (k ≡ count) ⊎ ((k < count) ⊎ (count < k)) → test k ≡ true
    go more parts (inl same) = ap test same ∙ parts.0
    go more parts (inr (inl less)) = more parts.1 less
    go more parts (inr (inr past)) = absurd (omega arith)

recovers : ℕ → ℕ → ℕ → ℕ → ℕ → ℕ → ℕ → Bool
recovers r a b c d e f = register_of (raw r (a ∷ b ∷ c ∷ d ∷ e ∷ f ∷ [])) == r

all_recover : all_of 64 (λ r. all_of 2 (λ a. all_of 2 (λ b. all_of 2
    (λ c. all_of 2 (λ d. all_of 2 (λ e. all_of 2 (λ f. recovers r a b c d e f))))))) ≡ true
unfolding all_of recovers register_of raw
all_recover = refl

recovers-at : (r a b c d e f : ℕ) → r < 64 → a < 2 → b < 2 → c < 2 → d < 2 → e < 2 → f < 2
    → recovers r a b c d e f ≡ true
recovers-at r a b c d e f p0 p1 p2 p3 p4 p5 p6 =
    all_of-at 2 (λ f. recovers r a b c d e f) f
    (all_of-at 2 (λ e. all_of 2 (λ f. recovers r a b c d e f)) e
    (all_of-at 2 (λ d. all_of 2 (λ e. all_of 2 (λ f. recovers r a b c d e f))) d
    (all_of-at 2 (λ c. all_of 2 (λ d. all_of 2 (λ e. all_of 2 (λ f. recovers r a b c d e f)))) c
    (all_of-at 2 (λ b. all_of 2 (λ c. all_of 2 (λ d. all_of 2 (λ e. all_of 2 (λ f. recovers r a b c d e f))))) b
    (all_of-at 2 (λ a. all_of 2 (λ b. all_of 2 (λ c. all_of 2
    (λ d. all_of 2 (λ e. all_of 2 (λ f. recovers r a b c d e f)))))) a
    (all_of-at 64 (λ r. all_of 2 (λ a. all_of 2 (λ b. all_of 2
    (λ c. all_of 2 (λ d. all_of 2 (λ e. all_of 2 (λ f. recovers r a b c d e f))))))) r all_recover p0) p1) p2) p3)
    p4) p5) p6

same-number : (m n : ℕ) → (m == n) ≡ true → m ≡ n
same-number m n e = grind (arith, nat_tests)

register-raw : (r : ℕ) (bits : List ℕ) → r < 64 → AreDigits bits → 6 ≤ length bits → register_of (raw r bits) ≡ r
unfolding register_of raw recovers
register-raw r (a ∷ b ∷ c ∷ d ∷ e ∷ f ∷ rest) small are six =
    let test : (register_of (raw r (a ∷ b ∷ c ∷ d ∷ e ∷ f ∷ [])) == r) ≡ true =
    recovers-at r a b c d e f small are.0 are.1.0 are.1.1.0 are.1.1.1.0 are.1.1.1.1.0 are.1.1.1.1.1.0 in
    same-number (register_of (raw r (a ∷ b ∷ c ∷ d ∷ e ∷ f ∷ []))) r test
register-raw r bits small are six = absurd (omega arith)

-- ---- the symbols of a step at rate 1/2
keeps-one : (t : ℕ) → (slice_index (1 ∷ []) (t % 1) == 1) ≡ true
keeps-one t = let zero_is : t % 1 ≡ 0 = omega arith in ap (λ n. slice_index (1 ∷ []) n == 1) zero_is

step-both : (invert : Bool) (t r b : ℕ) → step_symbols R12 invert t r b ≡ c1 r b ∷ sent_c2 invert (c2 r b) ∷ []
step-both invert t r b =
    λ i. cond (keeps-one t i) (c1 r b ∷ []) [] ++ cond (keeps-one t i) (sent_c2 invert (c2 r b) ∷ []) []

c2-same : (invert : Bool) (c d : ℕ) → c < 2 → d < 2 → sent_c2 invert c ≡ sent_c2 invert d → c ≡ d
c2-same true c d p q e = omega arith
c2-same false c d p q e = e

raw-same : (invert : Bool) (t r q : ℕ) (xs ys : List ℕ) → path R12 invert t r xs ≡ path R12 invert t q ys
    → raw r xs ≡ raw q ys
unfolding raw
raw-same invert t r q [] [] e = refl
raw-same invert t r q [] (y ∷ ys) e =
    let no_symbol : [] ≡ c1 q y ∷ sent_c2 invert (c2 q y) ∷ path R12 invert (t + 1) (next_register q y) ys = e
    ∙ ap (λ l. l ++ path R12 invert (t + 1) (next_register q y) ys) (step-both invert t q y) in
    absurd (cc)
raw-same invert t r q (x ∷ xs) [] e =
    let no_symbol : c1 r x ∷ sent_c2 invert (c2 r x) ∷ path R12 invert (t + 1) (next_register r x) xs ≡ [] =
    sym (ap (λ l. l ++ path R12 invert (t + 1) (next_register r x) xs) (step-both invert t r x)) ∙ e in
    absurd (cc)
raw-same invert t r q (x ∷ xs) (y ∷ ys) e =
    let both : c1 r x ∷ sent_c2 invert (c2 r x) ∷ path R12 invert (t + 1) (next_register r x) xs ≡ c1 q y
    ∷ sent_c2 invert (c2 q y) ∷ path R12 invert (t + 1) (next_register q y) ys =
    sym (ap (λ l. l ++ path R12 invert (t + 1) (next_register r x) xs) (step-both invert t r x)) ∙ e
    ∙ ap (λ l. l ++ path R12 invert (t + 1) (next_register q y) ys) (step-both invert t q y) in
    let first : c1 r x ≡ c1 q y = cc in
    let sent : sent_c2 invert (c2 r x) ≡ sent_c2 invert (c2 q y) = cc in
    let rest : path R12 invert (t + 1) (next_register r x) xs ≡ path R12 invert (t + 1) (next_register q y) ys = cc in
    let second : c2 r x ≡ c2 q y = c2-same invert (c2 r x) (c2 q y) (omega arith) (omega arith) sent in
    let more = raw-same invert (t + 1) (next_register r x) (next_register q y) xs ys rest in
    λ i. first i ∷ second i ∷ more i

length-raw : (r : ℕ) (bits : List ℕ) → length (raw r bits) ≡ 2 * length bits
unfolding raw
length-raw r [] = omega arith
length-raw r (b ∷ bits) = let more = length-raw (next_register r b) bits in omega arith

-- six steps or more with the same symbols begin from the same register, and have the same bits
pub same-start : (invert : Bool) (t r q : ℕ) (xs ys : List ℕ) → r < 64 → q < 64 → AreDigits xs → AreDigits ys
    → 6 ≤ length xs → path R12 invert t r xs ≡ path R12 invert t q ys → (r ≡ q) × (xs ≡ ys)
same-start invert t r q xs ys p0 p1 p2 p3 six e =
    let raws = raw-same invert t r q xs ys e in
    let long : length ys ≡ length xs = omega (arith, ap length raws, length-raw r xs, length-raw q ys) in
    let start : r ≡ q = sym (register-raw r xs p0 p2 six) ∙ ap register_of raws
    ∙ register-raw q ys p1 p3 (omega arith) in
    (start, same-path R12 invert t r xs ys p2 p3 (e ∙ ap (λ s. path R12 invert t s ys) (sym start)))

pub six_pairs : (invert : Bool) (t r q : ℕ) (xs ys : List ℕ) → r < 64 → q < 64 → AreBits xs → AreBits ys
    → 6 ≤ length xs → path R12 invert t r xs ≡ path R12 invert t q ys → (r ≡ q) × (xs ≡ ys)
six_pairs invert t r q xs ys rl ql p p' six e = same-start invert t r q xs ys rl ql (digits xs p) (digits ys p') six e
