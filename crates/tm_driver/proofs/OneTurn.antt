-- One more turn of reading.
use Rattle.std.proofs.lemmas.Bool.Decides.{nat_tests}
use Rattle.std.proofs.Common.{◌≡◌, ◌==◌, ◌&&◌, ◌||◌, Bool, true, false, nat_lt, ℕ, zero, suc, ◌+◌, ◌-◌, ◌≤◌, ◌<◌, drop, append_assoc, take-append-drop, ◌⊎◌, inl, inr, List, ◌++◌, length, length-append, take, refl, sym, ◌∙◌, ap, arith, Option}
use Rattle.std.specs.Io.KnownBytes.{append_known, prepend_known}
use Rattle.std.proofs.Math.Seq.{take-append-add}
use Rattle.std.proofs.lemmas.List.{take_all, length-take-le, take-append-le}
use Rattle.tm_base.proofs.Known.{append_known-more, prepend_known-more}
use Rattle.tm_base.specs.Written.{Gave}

pub gave-more : (a b c l m n : Option (List ℕ)) (xs ys : List ℕ) → Gave a b l m xs → c ≡ append_known b ys
    → m ≡ prepend_known ys n → Gave a c l n (xs ++ ys)
gave-more a b c l m n xs ys was given consumed = record {
  given = given ∙ ap (λ k. append_known k ys) was.given ∙ append_known-more a xs ys;
  consumed = was.consumed ∙ ap (prepend_known xs) consumed ∙ prepend_known-more n xs ys;
}

-- the octets that are kept of a turn are those up to the limit
pub kept-is : (limit kept : ℕ) (xs ys : List ℕ) → length xs ≤ limit
    → ((kept ≡ length ys) × (length xs + length ys ≤ limit)) ⊎ (length xs + kept ≡ limit)
    → take limit (xs ++ ys) ≡ xs ++ take kept ys
kept-is limit kept xs ys le cases =
    let whole : length xs + (limit - length xs) ≡ limit = omega arith in
    ap (λ n. take n (xs ++ ys)) (sym whole) ∙ take-append-add xs ys (limit - length xs) ∙ ap (λ l. xs ++ l) (same cases)
  where
    same : ((kept ≡ length ys) × (length xs + length ys ≤ limit)) ⊎ (length xs + kept ≡ limit)
        → take (limit - length xs) ys ≡ take kept ys
    same (inl c) = take_all (limit - length xs) ys (omega arith) ∙ sym (take_all kept ys (omega arith))
    same (inr e) = ap (λ n. take n ys) (omega arith)

-- The octets up to the limit go on by those that are kept of a turn, which are all, or all but the last once nothing
-- more may be read. What may still be read is less by those that were.
pub turn-is : {room count kept : ℕ} (limit : ℕ) (octets buf rest : List ℕ) → length octets + room ≡ limit + 1
    → kept ≡ count - (1 - (room - count)) → 0 < count → count ≤ room → count ≤ length buf
    → (take limit (octets ++ take count buf) ≡ take limit octets ++ take kept (buf ++ rest))
    × (length (octets ++ take count buf) + (room - count) ≡ limit + 1)
turn-is {room} {count} {kept} limit octets buf rest total is_kept some within prefix = (
  kept-is limit kept octets (take count buf) (omega arith) (which (room - count) refl)
      ∙ ap (λ l. octets ++ l) same ∙ ap (λ l. l ++ take kept (buf ++ rest)) (sym (take_all limit octets (omega arith))),
  omega (arith, long, length-append octets (take count buf)),
)
  where
    long : length (take count buf) ≡ count
    long = length-take-le count buf prefix

    which : (left : ℕ) → left ≡ room - count
        → ((kept ≡ length (take count buf)) × (length octets + length (take count buf) ≤ limit))
        ⊎ (length octets + kept ≡ limit)
    which zero is = inr (omega (arith, long))
    which (suc left) is = inl (omega (arith, long), omega (arith, long))

    same : take kept (take count buf) ≡ take kept (buf ++ rest)
    same =
        sym (take-append-le kept (take count buf) (drop count buf ++ rest) (omega (arith, long)))
        ∙ ap (take kept) (sym (append_assoc (take count buf) (drop count buf) rest)
        ∙ ap (λ l. l ++ rest) (take-append-drop count buf))

-- a read that gives octets does not report the end
pub going-on : (old new : Bool) (count room : ℕ) → 0 < count → new ≡ (old || ((count == 0) && nat_lt 0 room))
    → new ≡ old
going-on old new count room some is =
    is ∙ ap (λ (b : Bool). old || (b && nat_lt 0 room)) (not-zero count some) ∙ or-false old
  where
    not-zero : (n : ℕ) → 0 < n → (n == 0) ≡ false
    not-zero n lt = grind (arith, nat_tests)

    or-false : (b : Bool) → (b || false) ≡ b
    or-false true = refl
    or-false false = refl
