-- Paths from one register with the same symbols are the same.
use Rattle.std.proofs.Common.{◌≡◌, ℕ, ◌+◌, ◌/◌, ◌%◌, ◌<◌, Bool, true, false, cond, ◌==◌, List, [], ◌∷◌, ◌++◌, length, refl, sym, ap, ◌∙◌, arith, append_assoc, ◌⊎◌, inl, inr}
use Rattle.std.specs.List.{AllByRecursion}
use Rattle.std.proofs.lemmas.Bool.Decides.{nat_tests}
use Rattle.std.proofs.lemmas.List.Elements.{recursion_from_All}
use Rattle.tm_conv.specs.declared.rates.Rate.{Rate}
use Rattle.tm_conv.specs.Path.{AreBits, next_register, c1, c2, sent_c2, step_symbols, steps_size, path, register_after, keeps_c1, keeps_c2}
use Rattle.tm_conv.specs.Cost.{distance, cost, sure}
use Rattle.tm_conv.proofs.Paths.{length-path}
use Rattle.tm_conv.proofs.Sizes.{step_size_pos}

-- each number is a bit, by recursion on the list
abbrev pub AreDigits : List ℕ → Type 0
AreDigits = AllByRecursion (λ b. b < 2)

-- ---- symbols are bits
small_c2 : (invert : Bool) (d : ℕ) → d < 2 → sent_c2 invert d < 2
small_c2 true d small = omega arith
small_c2 false d small = small

bits-append : (xs ys : List ℕ) → AreDigits xs → AreDigits ys → AreDigits (xs ++ ys)
bits-append [] ys a b = b
bits-append (x ∷ xs) ys a b = (a.0, bits-append xs ys a.1 b)

bits-step : (k l : Bool) (c d : ℕ) → c < 2 → d < 2 → AreDigits (cond k (c ∷ []) [] ++ cond l (d ∷ []) [])
bits-step true true c d p q = (p, (q, tt))
bits-step true false c d p q = (p, tt)
bits-step false true c d p q = (q, tt)
bits-step false false c d p q = tt

pub bits-path : (rate : Rate) (invert : Bool) (t r : ℕ) (bits : List ℕ) → AreDigits (path rate invert t r bits)
bits-path rate invert t r [] = tt
bits-path rate invert t r (b ∷ bits) =
    bits-append (step_symbols rate invert t r b) (path rate invert (t + 1) (next_register r b) bits)
    (bits-step (keeps_c1 rate t) (keeps_c2 rate t) (c1 r b) (sent_c2 invert (c2 r b)) (omega arith)
    (small_c2 invert (c2 r b) (omega arith)))
    (bits-path rate invert (t + 1) (next_register r b) bits)

-- ---- the first symbols of two paths
head-same : (k l : Bool) (c c' d d' : ℕ) (us vs : List ℕ) → 0 < cond k 1 0 + cond l 1 0
    → (cond k (c ∷ []) [] ++ cond l (d ∷ []) []) ++ us ≡ (cond k (c' ∷ []) [] ++ cond l (d' ∷ []) []) ++ vs → (c ≡ c')
    ⊎ (d ≡ d')
head-same true l c c' d d' us vs some e = inl (cc)
head-same false true c c' d d' us vs some e = inr (cc)
head-same false false c c' d d' us vs some e = absurd (omega arith)

-- each of the two symbols shows the bit
bit-c1 : (x y a b c d : ℕ) → x < 2 → y < 2 → (x + a + b + c + d) % 2 ≡ (y + a + b + c + d) % 2 → x ≡ y
bit-c1 x y a b c d p q e = omega arith

bit-c2 : (invert : Bool) (x y a b c d : ℕ) → x < 2 → y < 2 → sent_c2 invert ((x + a + b + c + d) % 2)
    ≡ sent_c2 invert ((y + a + b + c + d) % 2) → x ≡ y
bit-c2 true x y a b c d p q e = omega arith
bit-c2 false x y a b c d p q e = omega arith

bit-same : (rate : Rate) (invert : Bool) (t r x y : ℕ) (us vs : List ℕ) → x < 2 → y < 2
    → step_symbols rate invert t r x ++ us ≡ step_symbols rate invert t r y ++ vs → x ≡ y
bit-same rate invert t r x y us vs p q e =
    go (head-same (keeps_c1 rate t) (keeps_c2 rate t) (c1 r x) (c1 r y) (sent_c2 invert (c2 r x))
    (sent_c2 invert (c2 r y)) us vs (step_size_pos rate t) e)
  where
    go : (c1 r x ≡ c1 r y) ⊎ (sent_c2 invert (c2 r x) ≡ sent_c2 invert (c2 r y)) → x ≡ y
    go (inl one) = bit-c1 x y (r / 32) (r / 16) (r / 8) r p q one
    go (inr one) = bit-c2 invert x y (r / 16) (r / 8) (r / 2) r p q one

cancel : (xs us vs : List ℕ) → xs ++ us ≡ xs ++ vs → us ≡ vs
cancel [] us vs e = e
cancel (x ∷ xs) us vs e = cancel xs us vs (cc)

nonempty : (rate : Rate) (invert : Bool) (t r b : ℕ) (bits : List ℕ) → path rate invert t r (b ∷ bits) ≡ [] → ⊥
unfolding steps_size
nonempty rate invert t r b bits e =
    let n = length-path rate invert t r (b ∷ bits) in let some = step_size_pos rate t in let none = ap length e in
    omega arith

-- from one register, the symbols show the bits
pub same-path : (rate : Rate) (invert : Bool) (t r : ℕ) (xs ys : List ℕ) → AreDigits xs → AreDigits ys
    → path rate invert t r xs ≡ path rate invert t r ys → xs ≡ ys
same-path rate invert t r [] [] p q e = refl
same-path rate invert t r [] (y ∷ ys) p q e = absurd (nonempty rate invert t r y ys (sym e))
same-path rate invert t r (x ∷ xs) [] p q e = absurd (nonempty rate invert t r x xs e)
same-path rate invert t r (x ∷ xs) (y ∷ ys) p q e =
    let one : x ≡ y = bit-same rate invert t r x y (path rate invert (t + 1) (next_register r x) xs)
    (path rate invert (t + 1) (next_register r y) ys) p.0 q.0 e in
    let e' : step_symbols rate invert t r x ++ path rate invert (t + 1) (next_register r x) xs
    ≡ step_symbols rate invert t r x ++ path rate invert (t + 1) (next_register r x) ys =
    e ∙ (λ i. step_symbols rate invert t r (sym one i) ++ path rate invert (t + 1) (next_register r (sym one i)) ys) in
    let rest = same-path rate invert (t + 1) (next_register r x) xs ys p.1 q.1
    (cancel (step_symbols rate invert t r x) (path rate invert (t + 1) (next_register r x) xs)
    (path rate invert (t + 1) (next_register r x) ys) e') in
    λ i. one i ∷ rest i

-- ---- what costs nothing
pub length-sure : (symbols : List ℕ) → length (sure symbols) ≡ length symbols
length-sure [] = refl
length-sure (s ∷ symbols) = let more = length-sure symbols in omega arith

one-costs : (s : ℕ) → distance s (cond (s == 0) 0 255) ≡ 0
one-costs s = grind (arith, nat_tests)

pub cost-sure : (symbols : List ℕ) → cost symbols (sure symbols) ≡ 0
cost-sure [] = refl
cost-sure (s ∷ symbols) = let one = one-costs s in let more = cost-sure symbols in omega arith

one-same : (s y : ℕ) → s < 2 → y < 2 → distance s (cond (y == 0) 0 255) ≡ 0 → s ≡ y
one-same s y p q e = grind (arith, nat_tests)

pub cost-none : (xs ys : List ℕ) → AreDigits xs → AreDigits ys → length xs ≡ length ys → cost xs (sure ys) ≡ 0 → xs ≡ ys
cost-none [] [] p q long e = refl
cost-none [] (y ∷ ys) p q long e = absurd (omega arith)
cost-none (x ∷ xs) [] p q long e = absurd (omega arith)
cost-none (x ∷ xs) (y ∷ ys) p q long e =
    let one = one-same x y p.0 q.0 (omega arith) in
    let more = cost-none xs ys p.1 q.1 (omega arith) (omega arith) in
    λ i. one i ∷ more i

-- ---- the prefix of a path
pub path-append : (rate : Rate) (invert : Bool) (t r : ℕ) (xs ys : List ℕ)
    → path rate invert t r (xs ++ ys) ≡ path rate invert t r xs
    ++ path rate invert (t + length xs) (register_after r xs) ys
path-append rate invert t r [] ys = ap (λ n. path rate invert n r ys) (omega arith)
path-append rate invert t r (x ∷ xs) ys =
    ap (λ l. step_symbols rate invert t r x ++ l) (path-append rate invert (t + 1) (next_register r x) xs ys)
    ∙ sym (append_assoc (step_symbols rate invert t r x) (path rate invert (t + 1) (next_register r x) xs)
    (path rate invert (t + 1 + length xs) (register_after (next_register r x) xs) ys))
    ∙ ap (λ n. path rate invert t r (x ∷ xs) ++ path rate invert n (register_after (next_register r x) xs) ys)
    (omega arith)

pub sure-append : (xs ys : List ℕ) → sure (xs ++ ys) ≡ sure xs ++ sure ys
sure-append [] ys = refl
sure-append (x ∷ xs) ys = ap (λ l. cond (x == 0) 0 255 ∷ l) (sure-append xs ys)

-- ---- the same of bits as candidates have them
pub digits : (bits : List ℕ) → AreBits bits → AreDigits bits
digits bits are = recursion_from_All (λ b. b < 2) bits are

pub clean_symbols : (rate : Rate) (invert : Bool) (t r : ℕ) (xs ys : List ℕ) → AreBits xs → AreBits ys
    → path rate invert t r xs ≡ path rate invert t r ys → xs ≡ ys
clean_symbols rate invert t r xs ys p q e = same-path rate invert t r xs ys (digits xs p) (digits ys q) e
