-- There is one best candidate.
use Rattle.std.proofs.Common.{◌≡◌, ℕ, ◌/◌, ◌%◌, ◌<◌, inl, inr, ◌∙◌, sym, ap, arith, length, List, [], ◌∷◌, suc, refl, Bool, length-append}
use Rattle.std.proofs.lemmas.List.{length-reverse, reverse-reverse, take_at, drop_at}
use Rattle.std.proofs.Common.{take, drop}
use mathlib.Core.List.{reverse}
use Rattle.tm_conv.specs.declared.rates.Rate.{Rate}
use Rattle.tm_conv.specs.Path.{path}
use Rattle.tm_conv.specs.Cost.{cost}
use Rattle.tm_conv.specs.Best.{IsLexLe, backwards, register_bits, IsBest}
use Rattle.tm_conv.proofs.Paths.{length-path}
use Rattle.tm_conv.proofs.Sizes.{same_from_steps_size}

same_words : (xs ys : List ℕ) → length xs ≡ length ys → IsLexLe xs ys → IsLexLe ys xs → xs ≡ ys
same_words [] [] l a b = refl
same_words [] (y ∷ ys) l a b = absurd (let h : 0 ≡ suc (length ys) = l in omega arith)
same_words (x ∷ xs) [] l a b = absurd (let h : suc (length xs) ≡ 0 = l in omega arith)
same_words (x ∷ xs) (y ∷ ys) l (inl a) (inl b) = absurd (omega arith)
same_words (x ∷ xs) (y ∷ ys) l (inl a) (inr b) = absurd (let e : y ≡ x = b.0 in omega arith)
same_words (x ∷ xs) (y ∷ ys) l (inr a) (inl b) = absurd (let e : x ≡ y = a.0 in omega arith)
same_words (x ∷ xs) (y ∷ ys) l (inr a) (inr b) =
    let long : length xs ≡ length ys = (let h : suc (length xs) ≡ suc (length ys) = l in omega arith) in
    let t : xs ≡ ys = same_words xs ys long a.1 b.1 in
    ap (λ v. v ∷ xs) a.0 ∙ ap (λ v. y ∷ v) t

same_register : (r q : ℕ) → r < 64 → q < 64 → register_bits r ≡ register_bits q → r ≡ q
same_register r q rl ql e =
    let a : r / 32 % 2 ≡ q / 32 % 2 = cc in
    let b : r / 16 % 2 ≡ q / 16 % 2 = cc in
    let c : r / 8 % 2 ≡ q / 8 % 2 = cc in
    let d : r / 4 % 2 ≡ q / 4 % 2 = cc in
    let f : r / 2 % 2 ≡ q / 2 % 2 = cc in
    let g : r % 2 ≡ q % 2 = cc in
    omega arith

pub IsBest-unique : (starts : ℕ → Bool) (rate : Rate) (invert : Bool) (t : ℕ) (octets : List ℕ) (r q : ℕ)
    (bits others : List ℕ)
    → IsBest starts rate invert t octets r bits → IsBest starts rate invert t octets q others → (r ≡ q)
    × (bits ≡ others)
IsBest-unique starts rate invert t octets r q bits others a b =
    let ab = a.least q others b.candidate in
    let ba = b.least r bits a.candidate in
    let same : cost (path rate invert t q others) octets ≡ cost (path rate invert t r bits) octets =
    omega (arith, ab, ba) in
    let first = a.first q others b.candidate same in
    let second = b.first r bits a.candidate (sym same) in
    let long : length bits ≡ length others = same_from_steps_size rate t (length bits) (length others)
    (sym (length-path rate invert t r bits) ∙ a.candidate.covers ∙ sym b.candidate.covers
    ∙ length-path rate invert t q others) in
    let words : backwards r bits ≡ backwards q others = same_words (backwards r bits) (backwards q others)
    (length-append (reverse bits) (register_bits r) ∙ omega (
      arith,
      length-append (reverse others) (register_bits q),
      length-reverse {A = ℕ} bits,
      length-reverse {A = ℕ} others,
      long,
    )) first second in
    let n = length (reverse bits) in
    let prefixes : reverse bits ≡ reverse others
    =
    sym (take_at (reverse bits) (register_bits r) n refl) ∙ ap (λ v. take n v) words
    ∙ take_at (reverse others) (register_bits q) n
    (length-reverse others ∙ sym long ∙ sym (length-reverse bits)) in
    let backs : register_bits r ≡ register_bits q
    =
    sym (drop_at (reverse bits) (register_bits r) n refl) ∙ ap (λ v. drop n v) words
    ∙ drop_at (reverse others) (register_bits q) n
    (length-reverse others ∙ sym long ∙ sym (length-reverse bits)) in (
      same_register r q a.candidate.register b.candidate.register backs,
      sym (reverse-reverse bits)
          ∙ ap reverse prefixes ∙ reverse-reverse others,
    )
