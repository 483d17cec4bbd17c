-- What a batch makes of its words is one list.
use Rattle.std.proofs.Common.{◌≡◌, ℕ, suc, ◌≤◌, Bool, true, false, List, [], ◌∷◌, ◌++◌, length, take, drop, refl, sym, ap, ◌∙◌, arith, All, take-append-drop, length-take, Some}
use Rattle.tm_gf256.specs.Poly.{numbers}
use Rattle.tm_gf256.specs.declared.element.Gf.{Gf}
use Rattle.tm_rs_code.specs.Code.{Code}
use Rattle.tm_rs_code.specs.Erasures.{NearestErased}
use Rattle.tm_rs_code.specs.Erasures.NearestErased.{Fixed as FixedErased, Beyond as BeyondErased}
use Rattle.tm_rs_code.specs.Nearest.{Nearest}
use Rattle.tm_rs_code.specs.Nearest.Nearest.{Fixed as FixedWord, Beyond as BeyondWord}
use Rattle.tm_rs_code.proofs.OnlyNearest.{nearest_only, nearest_erased_only}
use Rattle.tm_rs.specs.Answers.{found, found_erased}
use Rattle.tm_rs.specs.declared.answers.Answer.{Answer}
use Rattle.tm_rs.specs.declared.answers.Answer.TheVariants.{Fixed, Beyond}
use Rattle.tm_rs.specs.declared.answers.ErasedAnswer.{ErasedAnswer}
use Rattle.tm_rs.specs.declared.answers.ErasedAnswer.TheVariants.{Fixed as FixedBoth, Beyond as BeyondBoth}
use Rattle.tm_workers.specs.Batch.{EachBecomes}
use Rattle.tm_workers.specs.Words.{Decodes, DecodesErased}
use Rattle.tm_workers.specs.declared.words.Word.{Word}
use Rattle.tm_workers.specs.declared.words.ErasedWord.{ErasedWord}

same_numbers : (xs ys : List Gf) → numbers xs ≡ numbers ys → xs ≡ ys
same_numbers [] [] e = refl
same_numbers [] (y ∷ ys) e = absurd (cc)
same_numbers (x ∷ xs) [] e = absurd (cc)
same_numbers (x ∷ xs) (y ∷ ys) e =
    let head : x.0 ≡ y.0 = cc in
    let tail : numbers xs ≡ numbers ys = cc in
    let first : x ≡ y = (λ i. record { 0 = head i }) in
    (λ i. first i ∷ same_numbers xs ys tail i)

length-numbers : (xs : List Gf) → length (numbers xs) ≡ length xs
length-numbers [] = refl
length-numbers (x ∷ xs) = ap suc (length-numbers xs)

-- lists whose prefixes and rests are the same
same_parts : (n : ℕ) (s a b : List Gf) → take n a ≡ take n b → drop n a ≡ drop n s → drop n b ≡ drop n s → a ≡ b
same_parts n s a b prefix h k = sym (take-append-drop n a) ∙ (λ i. prefix i ++ (h ∙ sym k) i) ∙ take-append-drop n b

short_prefix : (n : ℕ) (s : List Gf) → n ≤ 255 → length (numbers (take n s)) ≤ 255
short_prefix n s short = omega (arith, length-numbers (take n s), length-take n s)

abbrev word_of : Nearest → List ℕ
word_of (FixedWord c d) = c
word_of BeyondWord = []

abbrev distance_of : Nearest → ℕ
distance_of (FixedWord c d) = d
distance_of BeyondWord = 0

abbrev is_fixed : Nearest → Bool
is_fixed (FixedWord c d) = true
is_fixed BeyondWord = false

-- what an answer and its word say determines both
same_found : (s a b : List Gf) (x y : Answer) → found x (numbers a) ≡ found y (numbers b) → (x ≡ Beyond → a ≡ s)
    → (y ≡ Beyond → b ≡ s) → (x ≡ y) × (a ≡ b)
same_found s a b (Fixed d) (Fixed d') e h k = (ap (λ n. Fixed (distance_of n)) e, same_numbers a b (ap word_of e))
same_found s a b (Fixed d) Beyond e h k = let no = ap is_fixed e in absurd (cc)
same_found s a b Beyond (Fixed d) e h k = let no = ap is_fixed e in absurd (cc)
same_found s a b Beyond Beyond e h k = (refl, h refl ∙ sym (k refl))

one_word : (code : Code) (repair : ℕ) (w a b : Word) → repair ≤ code.e → code.n ≤ 255 → Decodes code repair w a
    → Decodes code repair w b → a ≡ b
one_word code repair w a b bound short h k =
    let n = code.n in
    let only = nearest_only code.e repair (numbers (take n w.symbols)) (found h.answer (numbers (take n a.symbols)))
    (found k.answer (numbers (take n b.symbols))) bound (short_prefix n w.symbols short) h.nearest k.nearest in
    let same = same_found (take n w.symbols) (take n a.symbols)
    (take n b.symbols) h.answer k.answer only h.unchanged k.unchanged in
    let symbols = same_parts n w.symbols a.symbols b.symbols same.1 h.after k.after in
    let answer = h.answered ∙ ap Some same.0 ∙ sym k.answered in
    (λ i. record { symbols = symbols i; answer = answer i })

pub one_batch : (code : Code) (repair : ℕ) (words a b : List Word) → repair ≤ code.e → code.n ≤ 255
    → EachBecomes (Decodes code repair) words a → EachBecomes (Decodes code repair) words b → a ≡ b
one_batch code repair [] [] [] bound short h k = refl
one_batch code repair [] (x ∷ a) b bound short h k = absurd h
one_batch code repair [] [] (y ∷ b) bound short h k = absurd k
one_batch code repair (w ∷ words) [] b bound short h k = absurd h
one_batch code repair (w ∷ words) (x ∷ a) [] bound short h k = absurd k
one_batch code repair (w ∷ words) (x ∷ a) (y ∷ b) bound short h k =
    let first = one_word code repair w x y bound short h.0 k.0 in
    let rest = one_batch code repair words a b bound short h.1 k.1 in
    (λ i. first i ∷ rest i)

-- ---- erased places

abbrev erased_word_of : NearestErased → List ℕ
erased_word_of (FixedErased c a b) = c
erased_word_of BeyondErased = []

abbrev outside_of : NearestErased → ℕ
outside_of (FixedErased c a b) = a
outside_of BeyondErased = 0

abbrev inside_of : NearestErased → ℕ
inside_of (FixedErased c a b) = b
inside_of BeyondErased = 0

abbrev is_fixed_erased : NearestErased → Bool
is_fixed_erased (FixedErased c a b) = true
is_fixed_erased BeyondErased = false

same_found_erased : (s a b : List Gf) (x y : ErasedAnswer) → found_erased x (numbers a) ≡ found_erased y (numbers b)
    → (x ≡ BeyondBoth → a ≡ s) → (y ≡ BeyondBoth → b ≡ s) → (x ≡ y) × (a ≡ b)
same_found_erased s a b (FixedBoth d f) (FixedBoth d' f') e h k =
    (ap (λ n. FixedBoth (outside_of n) (inside_of n)) e, same_numbers a b (ap erased_word_of e))
same_found_erased s a b (FixedBoth d f) BeyondBoth e h k = let no = ap is_fixed_erased e in absurd (cc)
same_found_erased s a b BeyondBoth (FixedBoth d f) e h k = let no = ap is_fixed_erased e in absurd (cc)
same_found_erased s a b BeyondBoth BeyondBoth e h k = (refl, h refl ∙ sym (k refl))

one_erased_word : (code : Code) (repair : ℕ) (w a b : ErasedWord) → code.n ≤ 255 → length w.erased ≡ length w.symbols
    → DecodesErased code repair w a → DecodesErased code repair w b → a ≡ b
one_erased_word code repair w a b short flags h k =
    let n = code.n in
    let long : length (take n w.erased) ≡ length (numbers (take n w.symbols)) =
    omega (arith, length-take n w.erased, length-take n w.symbols, length-numbers (take n w.symbols), flags) in
    let only = nearest_erased_only code.e repair (take n w.erased) (numbers (take n w.symbols))
    (found_erased h.answer (numbers (take n a.symbols))) (found_erased k.answer (numbers (take n b.symbols))) long
    (short_prefix n w.symbols short) h.nearest k.nearest in
    let same = same_found_erased (take n w.symbols) (take n a.symbols)
    (take n b.symbols) h.answer k.answer only h.unchanged k.unchanged in
    let symbols = same_parts n w.symbols a.symbols b.symbols same.1 h.after k.after in
    let erased = h.erased ∙ sym k.erased in
    let answer = h.answered ∙ ap Some same.0 ∙ sym k.answered in
    (λ i. record { symbols = symbols i; erased = erased i; answer = answer i })

pub one_erased_batch : (code : Code) (repair : ℕ) (words a b : List ErasedWord) → code.n ≤ 255
    → All (λ w. length w.erased ≡ length w.symbols) words
    → EachBecomes (DecodesErased code repair) words a → EachBecomes (DecodesErased code repair) words b → a ≡ b
one_erased_batch code repair [] [] [] short flags h k = refl
one_erased_batch code repair [] (x ∷ a) b short flags h k = absurd h
one_erased_batch code repair [] [] (y ∷ b) short flags h k = absurd k
one_erased_batch code repair (w ∷ words) [] b short flags h k = absurd h
one_erased_batch code repair (w ∷ words) (x ∷ a) [] short flags h k = absurd k
one_erased_batch code repair (w ∷ words) (x ∷ a) (y ∷ b) short flags h k =
    let first = one_erased_word code repair w x y short (flags 0 w (omega arith)) h.0 k.0 in
    let rest = one_erased_batch code repair words a b short (λ i d lt. flags (suc i) d (omega arith)) h.1 k.1 in
    (λ i. first i ∷ rest i)
