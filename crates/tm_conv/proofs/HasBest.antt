-- Octets of whole steps have a best candidate.
use Rattle.std.proofs.Common.{◌≡◌, ℕ, zero, suc, ◌+◌, ◌*◌, ◌^◌, ◌<◌, ◌≤◌, ◌⊎◌, inl, inr, ◌∙◌, sym, ap, subst, refl, arith, length, List, [], ◌∷◌, Bool, true, false, IsTrue, length-append}
use Rattle.std.proofs.lemmas.List.{length-reverse}
use Rattle.std.proofs.lemmas.List.Elements.{All-nil, All-cons, All-head, All-tail, All-append}
use Rattle.std.proofs.lemmas.Bool.{cases_lt, cases_order, cases_Bool, both_ways}
use Rattle.std.proofs.Math.Nat.{mul-le-mul_right}
use mathlib.Core.List.{reverse}
use Rattle.tm_conv.specs.declared.rates.Rate.{Rate}
use Rattle.tm_conv.specs.Path.{AreBits, steps_size, path}
use Rattle.tm_conv.specs.Cost.{cost}
use Rattle.tm_conv.specs.Best.{backwards, register_bits, IsCandidate, IsBest}
use Rattle.tm_conv.proofs.Sizes.{same_from_steps_size}
use Rattle.tm_conv.proofs.Paths.{length-path}
use Rattle.tm_conv.proofs.DictionaryOrder.{value, value_lt, IsLexLe-from_value, register_bits_small, All-reverse}

-- ---- the least list of n bits

-- of the lists of n bits, one for which a number is least
record LeastBits (n : ℕ) (key : List ℕ → ℕ) : Type 0 where
  bits : List ℕ
  each : AreBits bits
  long : length bits ≡ n
  least : (others : List ℕ) → AreBits others → length others ≡ n → key bits ≤ key others

least_none : (key : List ℕ → ℕ) (others : List ℕ) → length others ≡ 0 → key [] ≤ key others
least_none key [] long = omega arith
least_none key (b ∷ others) long = absurd (omega arith)

-- a bound of the lists that begin with 0, and of those that begin with 1, is one of all
least_both : (n low : ℕ) (key : List ℕ → ℕ)
    → ((others : List ℕ) → AreBits others → length others ≡ n → low ≤ key (0 ∷ others))
    → ((others : List ℕ) → AreBits others → length others ≡ n → low ≤ key (1 ∷ others))
    → (others : List ℕ) → AreBits others → length others ≡ suc n → low ≤ key others
least_both n low key at_zero at_one [] each long = absurd (omega arith)
least_both n low key at_zero at_one (zero ∷ others) each long =
    at_zero others (All-tail (λ b. b < 2) 0 others each) (omega arith)
least_both n low key at_zero at_one (suc zero ∷ others) each long =
    at_one others (All-tail (λ b. b < 2) 1 others each) (omega arith)
least_both n low key at_zero at_one (suc (suc b) ∷ others) each long =
    let small : suc (suc b) < 2 = All-head (λ b. b < 2) (suc (suc b)) others each in absurd (omega arith)

lesser : (n : ℕ) (key : List ℕ → ℕ) → LeastBits n (λ bits. key (0 ∷ bits)) → LeastBits n (λ bits. key (1 ∷ bits))
    → LeastBits (suc n) key
lesser n key a b = elim (cases_lt (key (1 ∷ b.bits)) (key (0 ∷ a.bits))) [
  | inl less ↦ record {
    bits = 1 ∷ b.bits;
    each = All-cons (λ b. b < 2) 1 b.bits (omega arith) b.each;
    long = ap suc b.long;
    least = least_both n (key (1 ∷ b.bits)) key (λ others each long. omega (arith, a.least others each long)) b.least;
  }
  | inr le ↦ record {
    bits = 0 ∷ a.bits;
    each = All-cons (λ b. b < 2) 0 a.bits (omega arith) a.each;
    long = ap suc a.long;
    least = least_both n (key (0 ∷ a.bits)) key a.least (λ others each long. omega (arith, b.least others each long));
  }
]

least_bits : (n : ℕ) (key : List ℕ → ℕ) → LeastBits n key
least_bits zero key =
    record {
      bits = [];
      each = All-nil (λ b. b < 2);
      long = refl;
      least = λ others each long. least_none key others long;
    }
least_bits (suc n) key = lesser n key (least_bits n (λ bits. key (0 ∷ bits))) (least_bits n (λ bits. key (1 ∷ bits)))

-- ---- the least of some registers

-- of the registers below `count` that a path may start from, one for which a number is least
record LeastStart (starts : ℕ → Bool) (count : ℕ) (key : ℕ → ℕ) : Type 0 where
  register : ℕ
  start : IsTrue (starts register)
  below : register < count
  least : (other : ℕ) → IsTrue (starts other) → other < count → key register ≤ key other

abbrev HasNone : (ℕ → Bool) → ℕ → Type 0
HasNone starts count = (other : ℕ) → IsTrue (starts other) → other < count → ⊥

-- what holds of the starts below a number, and of this number if it is one, holds of one start more
one_more : (starts : ℕ → Bool) (count low : ℕ) (key : ℕ → ℕ)
    → ((other : ℕ) → IsTrue (starts other) → other < count → low ≤ key other)
    → (IsTrue (starts count) → low ≤ key count)
    → (other : ℕ) → IsTrue (starts other) → other < suc count → low ≤ key other
one_more starts count low key below here other is less = elim (cases_order other count) as (λ _. low ≤ key other) [
  | inl same ↦ rw same (here (subst (λ (k : ℕ). IsTrue (starts k)) same is))
  | inr (inl lt) ↦ below other is lt
  | inr (inr gt) ↦ absurd (omega arith)
]

least_start : (starts : ℕ → Bool) (key : ℕ → ℕ) (count : ℕ) → LeastStart starts count key ⊎ HasNone starts count
least_start starts key zero = inr (λ other is less. omega arith)
least_start starts key (suc count) = go (least_start starts key count) (cases_Bool (starts count))
  where
    go : LeastStart starts count key ⊎ HasNone starts count → (starts count ≡ true) ⊎ (starts count ≡ false)
        → LeastStart starts (suc count) key ⊎ HasNone starts (suc count)
    go (inl h) (inl may) = elim (cases_lt (key count) (key h.register)) [
      | inl less ↦ inl (record {
        register = count;
        start = may;
        below = omega arith;
        least =
            one_more starts count (key count) key (λ other is lt. omega (arith, h.least other is lt))
            (λ is. omega arith);
      })
      | inr le ↦ inl (record {
        register = h.register;
        start = h.start;
        below = omega (arith, h.below);
        least = one_more starts count (key h.register) key h.least (λ is. le);
      })
    ]
    go (inl h) (inr may_not) = inl (record {
      register = h.register;
      start = h.start;
      below = omega (arith, h.below);
      least = one_more starts count (key h.register) key h.least (λ is. absurd (both_ways (starts count) may_not is));
    })
    go (inr none) (inl may) = inl (record {
      register = count;
      start = may;
      below = omega arith;
      least = one_more starts count (key count) key (λ other is lt. absurd (none other is lt)) (λ is. omega arith);
    })
    go (inr none) (inr may_not) = inr (λ other is less. elim (cases_order other count) as (λ _. ⊥) [
      | inl same ↦ both_ways (starts count) may_not (subst (λ (k : ℕ). IsTrue (starts k)) same is)
      | inr (inl lt) ↦ none other is lt
      | inr (inr gt) ↦ omega arith
    ])

the_start : (starts : ℕ → Bool) (key : ℕ → ℕ) (count start : ℕ) → IsTrue (starts start) → start < count
    → LeastStart starts count key
the_start starts key count start is less =
    elim (least_start starts key count) [ inl h ↦ h | inr none ↦ absurd (none start is less) ]

-- ---- the least cost, and of those the first in the order of a dictionary

-- the number of a path: its cost, and then that of its bits
number_of : ℕ → ℕ → ℕ → ℕ
number_of size cost bits = cost * size + bits

lesser_number : (size a b v w : ℕ) → v < size → w < size → number_of size a v ≤ number_of size b w → (a ≤ b)
    × (b ≡ a → v ≤ w)
unfolding number_of
lesser_number size a b v w small little le = elim (cases_lt b a) [
  | inl less ↦ absurd (let more : suc b * size ≤ a * size = mul-le-mul_right size less in
      let one : suc b * size ≡ b * size + size = omega arith in omega arith)
  | inr no_more ↦ (no_more, λ same. let costs : b * size ≡ a * size = ap (λ k. k * size) same in omega arith)
]

bits_backwards : (register : ℕ) (bits : List ℕ) → AreBits bits → AreBits (backwards register bits)
bits_backwards register bits each =
    All-append (λ b. b < 2) (reverse bits) (register_bits register) (All-reverse bits each)
    (register_bits_small register)

length-backwards : (register : ℕ) (bits : List ℕ) → length (backwards register bits) ≡ length bits + 6
length-backwards register bits =
    length-append (reverse bits) (register_bits register) ∙ omega (arith, length-reverse {A = ℕ} bits)

backwards-lt : (n register : ℕ) (bits : List ℕ) → AreBits bits → length bits ≡ n
    → value (backwards register bits) < 2 ^ (n + 6)
backwards-lt n register bits each long =
    let size : length (backwards register bits) ≡ n + 6 = omega (arith, length-backwards register bits) in
    let small = value_lt (backwards register bits) (bits_backwards register bits each) in
    subst (λ (k : ℕ). value (backwards register bits) < 2 ^ k) size small

pub IsBest-exists : (starts : ℕ → Bool) (rate : Rate) (invert : Bool) (t steps start : ℕ) (octets : List ℕ)
    → IsTrue (starts start) → start < 64 → length octets ≡ steps_size rate t steps
    → (register : ℕ) × (bits : List ℕ) × IsBest starts rate invert t octets register bits
IsBest-exists starts rate invert t steps start octets is less whole =
    let size : ℕ = 2 ^ (steps + 6) in
    let cost_of : ℕ → List ℕ → ℕ = λ register bits. cost (path rate invert t register bits) octets in
    let value_of : ℕ → List ℕ → ℕ = λ register bits. value (backwards register bits) in
    let key : ℕ → List ℕ → ℕ = λ register bits. number_of size (cost_of register bits) (value_of register bits) in
    let least : (register : ℕ) → LeastBits steps (key register) = λ register. least_bits steps (key register) in
    let h : LeastStart starts 64 (λ register. key register (least register).bits) =
    the_start starts (λ register. key register (least register).bits) 64 start is less in
    let k : LeastBits steps (key h.register) = least h.register in
    let many : (other : ℕ) (others : List ℕ) → IsCandidate starts rate invert t octets other others
    → length others ≡ steps = λ other others c.
    same_from_steps_size rate t (length others) steps (sym (length-path rate invert t other others) ∙ c.covers
    ∙ whole) in
    let over : (other : ℕ) (others : List ℕ) → IsCandidate starts rate invert t octets other others
    → (cost_of h.register k.bits ≤ cost_of other others) × (cost_of other others ≡ cost_of h.register k.bits
    → value_of h.register k.bits ≤ value_of other others) = λ other others c.
    (let long = many other others c in
    lesser_number size (cost_of h.register k.bits) (cost_of other others) (value_of h.register k.bits)
    (value_of other others)
    (backwards-lt steps h.register k.bits k.each k.long) (backwards-lt steps other others c.each long)
    (omega (arith, h.least other c.start c.register, (least other).least others c.each long))) in
    let candidate : IsCandidate starts rate invert t octets h.register k.bits = record {
      start = h.start;
      register = h.below;
      each = k.each;
      covers = length-path rate invert t h.register k.bits ∙ ap (steps_size rate t) k.long ∙ sym whole;
    } in (
      h.register,
      k.bits,
      record {
        candidate = candidate;
        least = λ other others c. (over other others c).0;
        first = λ other others c same.
            IsLexLe-from_value (backwards h.register k.bits) (backwards other others)
            (bits_backwards h.register k.bits k.each) (bits_backwards other others c.each)
            (length-backwards h.register k.bits ∙ omega (
              arith,
              many other others c,
              k.long,
              length-backwards other others,
            )) ((over other others c).1 same);
      },
    )
