-- Texts of answers.
use Rattle.std.proofs.Common.{◌≡◌, ◌<◌, ◌≤◌, ◌-◌, ◌∙◌, ℕ, zero, suc, ℤ, pos, negsuc, int_le, unsigned_abs, false, true≢false, List, [], ◌∷◌, ◌++◌, length, drop, get_or, slice_set, max, refl, sym, ap, arith}
use Rattle.std.proofs.Math.Dec.{leb-zero}
use Rattle.tm_buffers.specs.Buffer.{over}
use Rattle.tmchan_c.specs.Texts.{no_text, refusal_texts, text_of, text_room}

-- an octet is written behind a text at the start of an array
set-behind : (text array : List ℕ) (octet : ℕ) → length text < length array
    → slice_set (text ++ drop (length text) array) (length text) octet ≡ over (text ++ octet ∷ []) array
set-behind text [] octet room = absurd (omega (arith, room))
set-behind [] (x ∷ array) octet room = refl
set-behind (t ∷ text) (x ∷ array) octet room = ap (λ l. t ∷ l) (set-behind text array octet (omega (arith, room)))

pub ended : (array start text : List ℕ) (count : ℕ) → start ≡ text → count ≡ length text → length text < length array
    → slice_set (start ++ drop count array) count 0 ≡ over (text ++ 0 ∷ []) array
ended array start text count same is room =
    ap (λ (s : List ℕ). slice_set (s ++ drop count array) count 0) same
    ∙ ap (λ (n : ℕ). slice_set (text ++ drop n array) n 0) is ∙ set-behind text array 0 room

-- an answer below 0 by the size of the number that holds it
pub below : (a held : ℤ) (depth : ℕ) → held ≡ a → int_le (pos 0) held ≡ false → depth ≡ unsigned_abs held
    → get_or refusal_texts (depth - 1) no_text ≡ text_of a
below (pos n) held depth same less is =
    absurd (true≢false (sym (leb-zero n) ∙ ap (int_le (pos 0)) (sym same) ∙ less))
below (negsuc n) held depth same less is =
    let size : depth ≡ unsigned_abs (negsuc n) = is ∙ ap unsigned_abs same in
    let index : depth - 1 ≡ n = omega (arith, size) in
    ap (λ k. get_or refusal_texts k no_text) index

abbrev longest : List (List ℕ) → ℕ
longest [] = length no_text
longest (text ∷ texts) = max (length text) (longest texts)

at-most : (texts : List (List ℕ)) (k : ℕ) → length (get_or texts k no_text) ≤ longest texts
at-most [] k = omega arith
at-most (text ∷ texts) zero = omega arith
at-most (text ∷ texts) (suc k) = omega (arith, at-most texts k)

pub text-short : (a : ℤ) → length (text_of a) < text_room
text-short (pos n) = omega arith
text-short (negsuc n) =
    let most : longest refusal_texts ≡ 77 = refl in
    omega (arith, at-most refusal_texts n, most)
