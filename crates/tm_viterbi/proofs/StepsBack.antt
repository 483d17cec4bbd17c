-- Survivors walked back eight steps at a time.
use Rattle.std.proofs.Common.{◌≡◌, ℕ, ◌+◌, ◌-◌, ◌*◌, ◌/◌, ◌%◌, ◌^◌, ◌<◌, ◌≤◌, ◌∙◌, sym, ap, subst, refl, arith, suc, zero, length, get_or, take, drop, List, [], ◌∷◌, ◌++◌, true, append_assoc, inl, inr}
use Rattle.std.proofs.lemmas.Bool.{cases_lt, agree_below, agree_below_at}
use Rattle.std.proofs.lemmas.List.{reverse-append, reverse-reverse, drop_at, drop-drop, length-take-le}
use borrow.Rule.Slice.PartMut.{put_mid, post_of}
use Rattle.std.proofs.Math.Seq.{take-add}
use mathlib.Core.List.{reverse}
use Rattle.tm_conv.specs.Path.{register_after}
use Rattle.tm_conv.proofs.EqualLists.{same, same_is}
use Rattle.tm_viterbi.specs.Walk.{before, past_of, start_of, history}
use Rattle.tm_viterbi.specs.declared.traceback.eight_bits.TheConstants.{EIGHT_BITS}

-- ---- the table

abbrev pub eight_bits : ℕ → List ℕ
eight_bits x =
    (x % 2) ∷ (x / 2 % 2) ∷ (x / 4 % 2) ∷ (x / 8 % 2) ∷ (x / 16 % 2) ∷ (x / 32 % 2) ∷ (x / 64 % 2) ∷ (x / 128 % 2) ∷ []

each_row : agree_below (λ x. same (get_or EIGHT_BITS x []) (eight_bits x)) (λ x. true) 256 ≡ true
unfolding same
each_row = refl

pub row_is : (x : ℕ) → x < 256 → get_or EIGHT_BITS x [] ≡ eight_bits x
row_is x lt =
    same_is (get_or EIGHT_BITS x []) (eight_bits x)
    (agree_below_at (λ x. same (get_or EIGHT_BITS x []) (eight_bits x)) (λ x. true) 256 x each_row lt)

-- ---- the walk

bit_small : (v : ℕ) → v % 2 < 2
bit_small v = omega arith

step_is : (c h : ℕ) → before c (h % 64) ≡ (2 * h + c / 2 ^ (h % 64) % 2) % 64
step_is c h =
    let d = c / 2 ^ (h % 64) % 2 in
    let small : d < 2 = bit_small (c / 2 ^ (h % 64)) in
    let goal : 2 * (h % 64 % 32) + d ≡ (2 * h + d) % 64 = omega (arith, small) in goal

pub start_is : (survivors : List ℕ) (h : ℕ) → start_of survivors (h % 64) ≡ history survivors h % 64
start_is [] h = refl
start_is (c ∷ survivors) h = ap (start_of survivors) (step_is c h) ∙ start_is survivors (2 * h + c / 2 ^ (h % 64) % 2)

-- each register's bits stand in the number
pub record IsIn (number h size : ℕ) : Type 0 where
  pub low : ℕ
  pub is : number ≡ h * size + low
  pub small : low < size

more_is : (number h d size low : ℕ) → number ≡ (2 * h + d) * size + low → number ≡ h * (2 * size) + (d * size + low)
more_is number h d size low e = omega arith

more_small : (d size low : ℕ) → d < 2 → low < size → d * size + low < 2 * size
more_small zero size low small lt = omega arith
more_small (suc zero) size low small lt = omega arith
more_small (suc (suc d)) size low small lt = absurd (omega arith)

is_in_more : (number h d size : ℕ) → d < 2 → IsIn number (2 * h + d) size → IsIn number h (2 * size)
is_in_more number h d size small e = record {
  low = d * size + e.low;
  is = more_is number h d size e.low e.is;
  small = more_small d size e.low small e.small;
}

unfoldable pub doubled : List ℕ → ℕ
doubled [] = 1
doubled (c ∷ survivors) = 2 * doubled survivors

pub is_in : (survivors : List ℕ) (h : ℕ) → IsIn (history survivors h) h (doubled survivors)
unfolding doubled
is_in [] h = record { low = 0; is = omega arith; small = omega arith }
is_in (c ∷ survivors) h =
    let d = c / 2 ^ (h % 64) % 2 in
    is_in_more (history survivors (2 * h + d)) h d (doubled survivors) (bit_small (c / 2 ^ (h % 64)))
    (is_in survivors (2 * h + d))

-- the bits of eight steps
at_size_2 : (number h : ℕ) → IsIn number h 2 → h % 64 / 32 ≡ number / 64 % 2
at_size_2 number h e = omega (arith, e.is, e.small)

at_size_4 : (number h : ℕ) → IsIn number h 4 → h % 64 / 32 ≡ number / 128 % 2
at_size_4 number h e = omega (arith, e.is, e.small)

at_size_8 : (number h : ℕ) → IsIn number h 8 → h % 64 / 32 ≡ number / 256 % 2
at_size_8 number h e = omega (arith, e.is, e.small)

at_size_16 : (number h : ℕ) → IsIn number h 16 → h % 64 / 32 ≡ number / 512 % 2
at_size_16 number h e = omega (arith, e.is, e.small)

at_size_32 : (number h : ℕ) → IsIn number h 32 → h % 64 / 32 ≡ number / 1024 % 2
at_size_32 number h e = omega (arith, e.is, e.small)

at_size_64 : (number h : ℕ) → IsIn number h 64 → h % 64 / 32 ≡ number / 2048 % 2
at_size_64 number h e = omega (arith, e.is, e.small)

at_size_128 : (number h : ℕ) → IsIn number h 128 → h % 64 / 32 ≡ number / 4096 % 2
at_size_128 number h e = omega (arith, e.is, e.small)

at_size_256 : (number h : ℕ) → IsIn number h 256 → h % 64 / 32 ≡ number / 8192 % 2
at_size_256 number h e = omega (arith, e.is, e.small)

same_eight : (n a b c d e f g h : ℕ) → a ≡ n / 8192 % 2 → b ≡ n / 4096 % 2 → c ≡ n / 2048 % 2 → d ≡ n / 1024 % 2
    → e ≡ n / 512 % 2 → f ≡ n / 256 % 2 → g ≡ n / 128 % 2 → h ≡ n / 64 % 2
    → a ∷ b ∷ c ∷ d ∷ e ∷ f ∷ g ∷ h ∷ [] ≡ reverse (eight_bits (n / 64 % 256))
same_eight n a b c d e f g h ea eb ec ed ee ef eg eh =
    let ia : a ≡ n / 64 % 256 / 128 % 2 = omega arith in
    let ib : b ≡ n / 64 % 256 / 64 % 2 = omega arith in
    let ic : c ≡ n / 64 % 256 / 32 % 2 = omega arith in
    let id : d ≡ n / 64 % 256 / 16 % 2 = omega arith in
    let ie : e ≡ n / 64 % 256 / 8 % 2 = omega arith in
    let i_f : f ≡ n / 64 % 256 / 4 % 2 = omega arith in
    let ig : g ≡ n / 64 % 256 / 2 % 2 = omega arith in
    let ih : h ≡ n / 64 % 256 % 2 = omega arith in
    (λ i. ia i ∷ ib i ∷ ic i ∷ id i ∷ ie i ∷ i_f i ∷ ig i ∷ ih i ∷ [])

past_cons : (c h next : ℕ) (survivors : List ℕ) → next ≡ 2 * h + c / 2 ^ (h % 64) % 2
    → past_of (c ∷ survivors) (h % 64) ≡ (h % 64 / 32) ∷ past_of survivors (next % 64)
past_cons c h next survivors is =
    subst (λ n. past_of (c ∷ survivors) (h % 64) ≡ (h % 64 / 32) ∷ past_of survivors (n % 64)) (sym is)
    (ap (λ v. (h % 64 / 32) ∷ past_of survivors v) (step_is c h))

-- the bits that eight steps back find, by the numbers of the registers on the way
past_eight : (a b c d e f g i h h1 h2 h3 h4 h5 h6 h7 n : ℕ) → h1 ≡ 2 * h + a / 2 ^ (h % 64) % 2
    → h2 ≡ 2 * h1 + b / 2 ^ (h1 % 64) % 2
    → h3 ≡ 2 * h2 + c / 2 ^ (h2 % 64) % 2 → h4 ≡ 2 * h3 + d / 2 ^ (h3 % 64) % 2 → h5 ≡ 2 * h4 + e / 2 ^ (h4 % 64) % 2
    → h6 ≡ 2 * h5 + f / 2 ^ (h5 % 64) % 2 → h7 ≡ 2 * h6 + g / 2 ^ (h6 % 64) % 2 → n ≡ 2 * h7 + i / 2 ^ (h7 % 64) % 2
    → past_of (a ∷ b ∷ c ∷ d ∷ e ∷ f ∷ g ∷ i ∷ []) (h % 64)
    ≡ (h % 64 / 32) ∷ (h1 % 64 / 32) ∷ (h2 % 64 / 32) ∷ (h3 % 64 / 32)
    ∷ (h4 % 64 / 32) ∷ (h5 % 64 / 32) ∷ (h6 % 64 / 32) ∷ (h7 % 64 / 32) ∷ []
past_eight a b c d e f g i h h1 h2 h3 h4 h5 h6 h7 n s1 s2 s3 s4 s5 s6 s7 s8 =
    past_cons a h h1 (b ∷ c ∷ d ∷ e ∷ f ∷ g ∷ i ∷ []) s1
    ∙ ap (λ v. (h % 64 / 32) ∷ v) (past_cons b h1 h2 (c ∷ d ∷ e ∷ f ∷ g ∷ i ∷ []) s2
    ∙ ap (λ v. (h1 % 64 / 32) ∷ v) (past_cons c h2 h3 (d ∷ e ∷ f ∷ g ∷ i ∷ []) s3
    ∙ ap (λ v. (h2 % 64 / 32) ∷ v) (past_cons d h3 h4 (e ∷ f ∷ g ∷ i ∷ []) s4
    ∙ ap (λ v. (h3 % 64 / 32) ∷ v) (past_cons e h4 h5 (f ∷ g ∷ i ∷ []) s5
    ∙ ap (λ v. (h4 % 64 / 32) ∷ v) (past_cons f h5 h6 (g ∷ i ∷ []) s6
    ∙ ap (λ v. (h5 % 64 / 32) ∷ v) (past_cons g h6 h7 (i ∷ []) s7
    ∙ ap (λ v. (h6 % 64 / 32) ∷ v) (past_cons i h7 n [] s8)))))))

found_eight : (bits : List ℕ) (n h h1 h2 h3 h4 h5 h6 h7 : ℕ)
    → bits ≡ (h % 64 / 32) ∷ (h1 % 64 / 32) ∷ (h2 % 64 / 32) ∷ (h3 % 64 / 32)
    ∷ (h4 % 64 / 32) ∷ (h5 % 64 / 32) ∷ (h6 % 64 / 32) ∷ (h7 % 64 / 32) ∷ []
    → h % 64 / 32 ≡ n / 8192 % 2 → h1 % 64 / 32 ≡ n / 4096 % 2 → h2 % 64 / 32 ≡ n / 2048 % 2
    → h3 % 64 / 32 ≡ n / 1024 % 2
    → h4 % 64 / 32 ≡ n / 512 % 2 → h5 % 64 / 32 ≡ n / 256 % 2 → h6 % 64 / 32 ≡ n / 128 % 2 → h7 % 64 / 32 ≡ n / 64 % 2
    → bits ≡ reverse (eight_bits (n / 64 % 256))
found_eight bits n h h1 h2 h3 h4 h5 h6 h7 is e0 e1 e2 e3 e4 e5 e6 e7 =
    is ∙ same_eight n (h % 64 / 32) (h1 % 64 / 32) (h2 % 64 / 32) (h3 % 64 / 32) (h4 % 64 / 32) (h5 % 64 / 32)
    (h6 % 64 / 32) (h7 % 64 / 32)
    e0 e1 e2 e3 e4 e5 e6 e7

eight_past : (a b c d e f g i h : ℕ)
    → past_of (a ∷ b ∷ c ∷ d ∷ e ∷ f ∷ g ∷ i ∷ []) (h % 64) ≡ reverse
    (eight_bits (history (a ∷ b ∷ c ∷ d ∷ e ∷ f ∷ g ∷ i ∷ []) h / 64 % 256))
unfolding doubled
eight_past a b c d e f g i h =
    let on : ℕ → ℕ → ℕ = λ c h. 2 * h + c / 2 ^ (h % 64) % 2 in
    let h1 = on a h in
    let h2 = on b h1 in
    let h3 = on c h2 in
    let h4 = on d h3 in
    let h5 = on e h4 in
    let h6 = on f h5 in
    let h7 = on g h6 in
    let n = on i h7 in
    let whole = past_eight a b c d e f g i h h1 h2 h3 h4 h5 h6 h7 n refl refl refl refl refl refl refl refl in
    let e0 = at_size_256 n h (is_in (a ∷ b ∷ c ∷ d ∷ e ∷ f ∷ g ∷ i ∷ []) h) in
    let e1 = at_size_128 n h1 (is_in (b ∷ c ∷ d ∷ e ∷ f ∷ g ∷ i ∷ []) h1) in
    let e2 = at_size_64 n h2 (is_in (c ∷ d ∷ e ∷ f ∷ g ∷ i ∷ []) h2) in
    let e3 = at_size_32 n h3 (is_in (d ∷ e ∷ f ∷ g ∷ i ∷ []) h3) in
    let e4 = at_size_16 n h4 (is_in (e ∷ f ∷ g ∷ i ∷ []) h4) in
    let e5 = at_size_8 n h5 (is_in (f ∷ g ∷ i ∷ []) h5) in
    let e6 = at_size_4 n h6 (is_in (g ∷ i ∷ []) h6) in
    let e7 = at_size_2 n h7 (is_in (i ∷ []) h7) in
    found_eight (past_of (a ∷ b ∷ c ∷ d ∷ e ∷ f ∷ g ∷ i ∷ []) (h % 64)) n h h1 h2 h3 h4 h5 h6 h7 whole e0 e1 e2 e3 e4
    e5 e6 e7

eight : (P : List ℕ → Type 0) (survivors : List ℕ) → length survivors ≡ 8
    → ((a b c d e f g h : ℕ) → P (a ∷ b ∷ c ∷ d ∷ e ∷ f ∷ g ∷ h ∷ [])) → P survivors
eight P [] l k = absurd (let e : 0 ≡ 8 = l in omega arith)
eight P (a ∷ []) l k = absurd (let e : 1 ≡ 8 = l in omega arith)
eight P (a ∷ b ∷ []) l k = absurd (let e : 2 ≡ 8 = l in omega arith)
eight P (a ∷ b ∷ c ∷ []) l k = absurd (let e : 3 ≡ 8 = l in omega arith)
eight P (a ∷ b ∷ c ∷ d ∷ []) l k = absurd (let e : 4 ≡ 8 = l in omega arith)
eight P (a ∷ b ∷ c ∷ d ∷ e ∷ []) l k = absurd (let z : 5 ≡ 8 = l in omega arith)
eight P (a ∷ b ∷ c ∷ d ∷ e ∷ f ∷ []) l k = absurd (let z : 6 ≡ 8 = l in omega arith)
eight P (a ∷ b ∷ c ∷ d ∷ e ∷ f ∷ g ∷ []) l k = absurd (let z : 7 ≡ 8 = l in omega arith)
eight P (a ∷ b ∷ c ∷ d ∷ e ∷ f ∷ g ∷ h ∷ []) l k = k a b c d e f g h
eight P (a ∷ b ∷ c ∷ d ∷ e ∷ f ∷ g ∷ h ∷ x ∷ xs) l k =
    absurd (let z : suc (suc (suc (suc (suc (suc (suc (suc (suc (length xs))))))))) ≡ 8 = l in omega arith)

of_register : (survivors : List ℕ) (register : ℕ) → length survivors ≡ 8
    → past_of (reverse survivors) (register % 64) ≡ reverse
    (eight_bits (history (reverse survivors) register / 64 % 256))
of_register survivors register l =
    eight (λ v. past_of (reverse v) (register % 64) ≡ reverse (eight_bits (history (reverse v) register / 64 % 256)))
    survivors l (λ a b c d e f g h. eight_past h g f e d c b a register)

pub eight_walked : (survivors : List ℕ) (register : ℕ) → length survivors ≡ 8 → register < 64
    → eight_bits (history (reverse survivors) register / 64 % 256) ≡ reverse (past_of (reverse survivors) register)
eight_walked survivors register l lt =
    let e : register % 64 ≡ register = omega arith in
    sym (reverse-reverse (eight_bits (history (reverse survivors) register / 64 % 256)))
    ∙ ap (λ (v : List ℕ). reverse v) (sym (of_register survivors register l))
    ∙ ap (λ v. reverse (past_of (reverse survivors) v)) e

pub eight_start : (survivors : List ℕ) (register : ℕ) → register < 64
    → history (reverse survivors) register % 64 ≡ start_of (reverse survivors) register
eight_start survivors register lt =
    let e : register % 64 ≡ register = omega arith in
    sym (start_is (reverse survivors) register) ∙ ap (start_of (reverse survivors)) e

-- ---- one walk after another

pub past_append : (xs ys : List ℕ) (s : ℕ) → past_of (xs ++ ys) s ≡ past_of xs s ++ past_of ys (start_of xs s)
past_append [] ys s = refl
past_append (c ∷ xs) ys s = ap (λ (v : List ℕ). (s / 32) ∷ v) (past_append xs ys (before c s))

pub start_append : (xs ys : List ℕ) (s : ℕ) → start_of (xs ++ ys) s ≡ start_of ys (start_of xs s)
start_append [] ys s = refl
start_append (c ∷ xs) ys s = start_append xs ys (before c s)

parts_of : (survivors : List ℕ) (i j : ℕ) → i ≡ j + 8
    → reverse (take i survivors) ≡ reverse (take 8 (drop j survivors)) ++ reverse (take j survivors)
parts_of survivors i j e =
    ap (λ (v : ℕ). reverse (take v survivors)) e ∙ ap (λ (v : List ℕ). reverse v) (take-add j 8 survivors)
    ∙ reverse-append (take j survivors) (take 8 (drop j survivors))

pub start_more : (survivors : List ℕ) (i j s : ℕ) → i ≡ j + 8
    → start_of (reverse (take i survivors)) s ≡ start_of (reverse (take j survivors))
    (start_of (reverse (take 8 (drop j survivors))) s)
start_more survivors i j s e = ap (λ (v : List ℕ). start_of v s) (parts_of survivors i j e)
    ∙ start_append (reverse (take 8 (drop j survivors))) (reverse (take j survivors)) s

pub past_more : (survivors bits after piece : List ℕ) (i j s : ℕ) → i ≡ j + 8 → after ≡ piece ++ drop i bits
    → piece ≡ reverse (past_of (reverse (take 8 (drop j survivors))) s)
    → reverse (drop i bits) ++ past_of (reverse (take i survivors)) s ≡ reverse after ++ past_of
    (reverse (take j survivors)) (start_of (reverse (take 8 (drop j survivors))) s)
past_more survivors bits after piece i j s e a p =
    let chunk = reverse (take 8 (drop j survivors)) in
    let rest = past_of (reverse (take j survivors)) (start_of chunk s) in
    let back : reverse piece ≡ past_of chunk s = ap (λ (v : List ℕ). reverse v) p ∙ reverse-reverse (past_of chunk s) in
    let complemented : reverse after ≡ reverse (drop i bits) ++ past_of chunk s =
    ap (λ (v : List ℕ). reverse v) a ∙ reverse-append piece (drop i bits)
    ∙ ap (λ (v : List ℕ). reverse (drop i bits) ++ v) back in
    ap (λ (v : List ℕ). reverse (drop i bits) ++ past_of v s) (parts_of survivors i j e)
    ∙ ap (λ (v : List ℕ). reverse (drop i bits) ++ v) (past_append chunk (reverse (take j survivors)) s)
    ∙ sym (append_assoc (reverse (drop i bits)) (past_of chunk s) rest)
    ∙ ap (λ (v : List ℕ). v ++ rest) (sym complemented)

-- ---- six bits determine a register

after_six : (first other b c d e f g : ℕ) → first < 64 → other < 64
    → register_after first (b ∷ c ∷ d ∷ e ∷ f ∷ g ∷ []) ≡ register_after other (b ∷ c ∷ d ∷ e ∷ f ∷ g ∷ [])
after_six first other b c d e f g lt k =
    let goal : (((((first / 2 + 32 * b) / 2 + 32 * c) / 2 + 32 * d) / 2 + 32 * e) / 2 + 32 * f) / 2 + 32 * g
    ≡ (((((other / 2 + 32 * b) / 2 + 32 * c) / 2 + 32 * d) / 2 + 32 * e) / 2 + 32 * f) / 2 + 32 * g =
    omega arith in goal

-- so that of seven the first does not count
one_less : (first a : ℕ) (bits : List ℕ) → first < 64 → first / 2 + 32 * a < 64 → 6 ≤ length bits
    → register_after first (a ∷ bits) ≡ register_after first bits
one_less first a [] lt next le = absurd (let z : 6 ≤ 0 = le in omega arith)
one_less first a (b ∷ []) lt next le = absurd (let z : 6 ≤ 1 = le in omega arith)
one_less first a (b ∷ c ∷ []) lt next le = absurd (let z : 6 ≤ 2 = le in omega arith)
one_less first a (b ∷ c ∷ d ∷ []) lt next le = absurd (let z : 6 ≤ 3 = le in omega arith)
one_less first a (b ∷ c ∷ d ∷ e ∷ []) lt next le = absurd (let z : 6 ≤ 4 = le in omega arith)
one_less first a (b ∷ c ∷ d ∷ e ∷ f ∷ []) lt next le = absurd (let z : 6 ≤ 5 = le in omega arith)
one_less first a (b ∷ c ∷ d ∷ e ∷ f ∷ g ∷ bits) lt next le =
    ap (λ (r : ℕ). register_after r bits) (after_six (first / 2 + 32 * a) first b c d e f g next lt)

pub last_six : (first : ℕ) (bits : List ℕ) → first < 64 → ((k : ℕ) → k < length bits → get_or bits k 0 < 2)
    → register_after first (drop (length bits - 6) bits) ≡ register_after first bits
last_six first [] lt small = refl
last_six first (a ∷ bits) lt small =
    elim (cases_lt (length bits) 6) [
      | inl l ↦ (let none : suc (length bits) - 6 ≡ 0 = omega arith in
          ap (λ (v : ℕ). register_after first (drop v (a ∷ bits))) none)
      | inr g ↦ (let more : suc (length bits) - 6 ≡ suc (length bits - 6) = omega arith in
          let bit : a < 2 = small 0 (let z : 0 < suc (length bits) = omega arith in z) in
          let below : (k : ℕ) → k < length bits → get_or bits k 0 < 2 =
          λ k lt. small (suc k) (let z : suc k < suc (length bits) = omega arith in z) in
          ap (λ (v : ℕ). register_after first (drop v (a ∷ bits))) more
          ∙ last_six first bits lt below ∙ sym (one_less first a bits lt (omega arith) g))
    ]

pub put_more : (bits piece : List ℕ) (i j k : ℕ) → i ≡ j + 8 → k ≡ 8 → i ≤ length bits → length piece ≡ 8
    → drop j (put_mid j k bits piece) ≡ piece ++ drop i bits
put_more bits piece i j k e f le long =
    let size : length (take j bits) ≡ j = length-take-le j bits (omega arith) in
    let end : j + k ≡ i = omega arith in
    drop_at (take j bits) (piece ++ post_of j k bits) j size ∙ ap (λ (v : List ℕ). piece ++ v) (drop-drop k j bits)
    ∙ ap (λ (v : ℕ). piece ++ drop v bits) end
