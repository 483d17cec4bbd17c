-- The blocks of symbols that were not disturbed.
use Rattle.std.proofs.Common.{◌≡◌, ℕ, zero, suc, ◌+◌, ◌-◌, ◌<◌, ◌≤◌, ◌==◌, cond, Bool, true, List, [], ◌∷◌, ◌++◌, length, take, drop, refl, sym, ap, ◌∙◌, subst, arith, take-append-drop, length-drop, Option, Some, None, ◌⊎◌, inl, inr}
use Rattle.std.proofs.lemmas.Bool.{cases_lt}
use Rattle.std.proofs.lemmas.List.{take_at, drop_at, length-map, length-take-le, take-take}
use Rattle.std.proofs.lemmas.List.Elements.{All-cons, All-nil}
use Rattle.std.proofs.lemmas.Bool.Decides.{nat_tests}
use Rattle.tm_conv.specs.declared.rates.Rate.{Rate}
use Rattle.tm_conv.specs.declared.rates.Rate.TheVariants.{R12}
use Rattle.tm_conv.specs.Path.{AreBits, complement, steps_size, path, register_after, next_register}
use Rattle.tm_conv.specs.Cost.{cost, sure}
use Rattle.tm_conv.specs.Best.{IsCandidate, IsBest}
use Rattle.tm_conv.proofs.Sizes.{step_size_pos}
use Rattle.tm_conv.proofs.Paths.{length-path, steps_size-more}
use Rattle.tm_conv.proofs.Clean.{AreDigits, digits, bits-path, same-path, length-sure, cost-sure, cost-none, path-append, sure-append}
use Rattle.tm_viterbi.specs.declared.block.Start.{Start}
use Rattle.tm_viterbi.specs.declared.block.Start.TheVariants.{Any}
use Rattle.tm_viterbi.specs.Settings.{Settings}
use Rattle.tm_viterbi.specs.Starts.{starts_from, first_start}
use Rattle.tm_viterbi.specs.WindowBlock.{WindowBlock}
use Rattle.tm_viterbi.specs.Blocks.{AreSteps, IsBlock, AreBlocks, AreBlocksOf, window_steps, kept_steps}
use Rattle.tm_viterbi.specs.Clean.{kept_bits, CostNothing, sure_symbols, IsFixed, AreClean, complemented_octets}

-- ---- bits

pub bits_of-digits : (xs : List ℕ) → AreDigits xs → AreBits xs
bits_of-digits [] p = All-nil (λ b. b < 2)
bits_of-digits (x ∷ xs) p = All-cons (λ b. b < 2) x xs p.0 (bits_of-digits xs p.1)

pub digits-take : (count : ℕ) (xs : List ℕ) → AreDigits xs → AreDigits (take count xs)
digits-take zero xs p = tt
digits-take (suc count) [] p = tt
digits-take (suc count) (x ∷ xs) p = (p.0, digits-take count xs p.1)

digits-drop : (count : ℕ) (xs : List ℕ) → AreDigits xs → AreDigits (drop count xs)
digits-drop zero xs p = p
digits-drop (suc count) [] p = tt
digits-drop (suc count) (x ∷ xs) p = digits-drop count xs p.1

pub register-small : (r : ℕ) (bits : List ℕ) → r < 64 → AreDigits bits → register_after r bits < 64
register-small r [] small p = small
register-small r (b ∷ bits) small p = let bit = p.0 in register-small (next_register r b) bits (omega arith) p.1

-- ---- steps

steps-le : (rate : Rate) (t n k : ℕ) → steps_size rate t n ≤ steps_size rate t (n + k)
steps-le rate t n zero = let same : n ≡ n + 0 = omega arith in let e = ap (steps_size rate t) same in omega arith
steps-le rate t n (suc k) =
    let next : n + suc k ≡ n + k + 1 = omega arith in
    let e = ap (steps_size rate t) next in
    omega (arith, steps-le rate t n k, steps_size-more rate t (n + k))

pub steps-mono : (rate : Rate) (t n m : ℕ) → n ≤ m → steps_size rate t n ≤ steps_size rate t m
steps-mono rate t n m le =
    let same : n + (m - n) ≡ m = omega arith in
    subst (λ (k : ℕ). steps_size rate t n ≤ steps_size rate t k) same (steps-le rate t n (m - n))

-- the octets of n steps have n whole steps
steps-only : (rate : Rate) (t n count : ℕ) (octets : List ℕ) → length octets ≡ steps_size rate t n
    → AreSteps rate t octets count → count ≡ n
steps-only rate t n count octets long are = go (cases_lt count n) (cases_lt n count)
  where
    go : (count < n) ⊎ (n ≤ count) → (n < count) ⊎ (count ≤ n) → count ≡ n
    go (inl few) more = absurd (omega (arith, are.most, steps-mono rate t (count + 1) n (omega arith)))
    go (inr least) (inl many) =
        absurd (omega (
          arith,
          are.whole,
          steps-mono rate t (n + 1) count (omega arith),
          steps_size-more rate t n,
          step_size_pos rate (t + n),
        ))
    go (inr least) (inr most) = omega arith

length-sent : (rate : Rate) (invert : Bool) (t r : ℕ) (bits : List ℕ)
    → length (sure (path rate invert t r bits)) ≡ steps_size rate t (length bits)
length-sent rate invert t r bits = length-sure (path rate invert t r bits) ∙ length-path rate invert t r bits

-- the octets of the first steps, and of the rest
pub prefix-octets : (rate : Rate) (invert : Bool) (t r w : ℕ) (bits : List ℕ) → w ≤ length bits
    → (take (steps_size rate t w) (sure (path rate invert t r bits)) ≡ sure (path rate invert t r (take w bits)))
    × (drop (steps_size rate t w) (sure (path rate invert t r bits))
    ≡ sure (path rate invert (t + w) (register_after r (take w bits)) (drop w bits)))
prefix-octets rate invert t r w bits le =
    let prefix = take w bits in
    let long : length (take w bits) ≡ w = length-take-le w bits le in
    let rest = sure (path rate invert (t + length prefix) (register_after r prefix) (drop w bits)) in
    let whole : sure (path rate invert t r bits) ≡ sure (path rate invert t r (take w bits)) ++ rest =
    ap (λ l. sure (path rate invert t r l)) (sym (take-append-drop w bits))
    ∙ ap sure (path-append rate invert t r prefix (drop w bits))
    ∙ sure-append (path rate invert t r prefix) (path rate invert (t + length prefix) (register_after r prefix)
    (drop w bits)) in
    let size : length (sure (path rate invert t r (take w bits))) ≡ steps_size rate t w =
    length-sent rate invert t r prefix ∙ ap (steps_size rate t) long in (
      ap (take (steps_size rate t w)) whole ∙ take_at (sure (path rate invert t r prefix)) rest
          (steps_size rate t w) size,
      ap (drop (steps_size rate t w)) whole ∙ drop_at (sure (path rate invert t r prefix)) rest
          (steps_size rate t w) size
          ∙ ap (λ n. sure (path rate invert (t + n) (register_after r prefix) (drop w bits))) long,
    )

-- ---- the best path of undisturbed symbols

-- it is the path that was sent, where its symbols fix it
best-sent : (starts : Option ℕ) (rate : Rate) (invert : Bool) (t r q : ℕ) (bits found : List ℕ)
    → starts_from starts r ≡ true → r < 64 → AreDigits bits
    → IsBest (starts_from starts) rate invert t (sure (path rate invert t r bits)) q found
    → path rate invert t q found ≡ path rate invert t r bits
best-sent starts rate invert t r q bits found start small are best =
    let symbols = path rate invert t r bits in
    let sent : IsCandidate (starts_from starts) rate invert t (sure (path rate invert t r bits)) r bits = record {
      start = start;
      register = small;
      each = bits_of-digits bits are;
      covers = sym (length-sure symbols);
    } in
    let free : cost (path rate invert t r bits) (sure (path rate invert t r bits)) ≡ 0 = cost-sure symbols in
    let least : cost (path rate invert t q found) (sure (path rate invert t r bits))
    ≤ cost (path rate invert t r bits) (sure (path rate invert t r bits)) = best.least r bits sent in
    let none : cost (path rate invert t q found) (sure (path rate invert t r bits)) ≡ 0 = omega arith in
    cost-none (path rate invert t q found) symbols (bits-path rate invert t q found) (bits-path rate invert t r bits)
    (best.candidate.covers ∙ length-sure symbols) none

same-number : (m n : ℕ) → (m == n) ≡ true → m ≡ n
same-number m n e = grind (arith, nat_tests)

number-same : (n : ℕ) → (n == n) ≡ true
number-same n = grind (arith, nat_tests)

best-from : (rate : Rate) (invert : Bool) (t r q : ℕ) (bits found : List ℕ) → r < 64 → AreDigits bits
    → IsBest (starts_from (Some r)) rate invert t (sure (path rate invert t r bits)) q found → (q ≡ r) × (found ≡ bits)
best-from rate invert t r q bits found small are best =
    let start : q ≡ r = same-number q r best.candidate.start in
    let same = best-sent (Some r) rate invert t r q bits found (number-same r) small are best in (
      start,
      same-path rate invert t r found bits (digits found best.candidate.each) are
          (ap (λ s. path rate invert t s found) (sym start) ∙ same),
    )

-- undisturbed pairs of six steps, or more, fix the register and the bits
abbrev pub SixPairs : Type 0
SixPairs =
    (invert : Bool) (t register other : ℕ) (bits others : List ℕ) → register < 64 → other < 64 → AreBits bits
    → AreBits others
    → 6 ≤ length bits → path R12 invert t register bits ≡ path R12 invert t other others → (register ≡ other)
    × (bits ≡ others)

best-any : SixPairs → (invert : Bool) (t r q : ℕ) (bits found : List ℕ) → r < 64 → AreDigits bits → 6 ≤ length bits
    → IsBest (starts_from None) R12 invert t (sure (path R12 invert t r bits)) q found → (q ≡ r) × (found ≡ bits)
best-any six invert t r q bits found small are many best =
    let same = best-sent None R12 invert t r q bits found refl small are best in
    let both = six invert t r q bits found small best.candidate.register
    (bits_of-digits bits are) best.candidate.each many (sym same) in
    (sym both.0, sym both.1)

-- ---- blocks

window-le : (keep ahead n : ℕ) → window_steps keep ahead n ≤ n
window-le keep ahead n = omega arith

kept-le : (keep ahead n : ℕ) → kept_steps keep ahead n ≤ window_steps keep ahead n
kept-le keep ahead n = grind (arith, nat_tests)

-- the octets of a window of undisturbed symbols
window-octets : (rate : Rate) (invert : Bool) (keep ahead : ℕ) (starts : Option ℕ) (t r : ℕ) (bits : List ℕ)
    (b : WindowBlock)
    → IsBlock rate invert keep ahead starts t (length bits) (sure (path rate invert t r bits)) b
    → take (steps_size rate t b.steps) (sure (path rate invert t r bits))
    ≡ sure (path rate invert t r (take (window_steps keep ahead (length bits)) bits))
window-octets rate invert keep ahead starts t r bits b one =
    ap (λ m. take (steps_size rate t m) (sure (path rate invert t r bits))) one.steps
    ∙ (prefix-octets rate invert t r (window_steps keep ahead (length bits)) bits
    (window-le keep ahead (length bits))).0

window-best : (rate : Rate) (invert : Bool) (keep ahead : ℕ) (starts : Option ℕ) (t r : ℕ) (bits : List ℕ)
    (b : WindowBlock)
    → IsBlock rate invert keep ahead starts t (length bits) (sure (path rate invert t r bits)) b
    → IsBest (starts_from starts) rate invert t (sure (path rate invert t r
    (take (window_steps keep ahead (length bits)) bits))) b.start b.bits
window-best rate invert keep ahead starts t r bits b one =
    subst (λ (octets : List ℕ). IsBest (starts_from starts) rate invert t octets b.start b.bits)
    (window-octets rate invert keep ahead starts t r bits b one) one.best

-- what follows a block whose path is the one that was sent
record Follows (rate : Rate) (invert : Bool) (keep ahead t r : ℕ) (bits : List ℕ) (b : WindowBlock)
    (more : List WindowBlock) : Type 0 where
  free : b.metric ≡ 0
  kept : take b.kept b.bits ≡ take (kept_steps keep ahead (length bits)) bits
  next : AreBlocks rate invert keep ahead (Some (register_after r (take (kept_steps keep ahead (length bits)) bits)))
      (t + kept_steps keep ahead (length bits))
      (length (drop (kept_steps keep ahead (length bits)) bits))
      (sure (path rate invert (t + kept_steps keep ahead (length bits))
      (register_after r (take (kept_steps keep ahead (length bits)) bits))
      (drop (kept_steps keep ahead (length bits)) bits))) more

follows : (rate : Rate) (invert : Bool) (keep ahead : ℕ) (starts : Option ℕ) (t r : ℕ) (bits : List ℕ)
    (b : WindowBlock) (more : List WindowBlock)
    → IsBlock rate invert keep ahead starts t (length bits) (sure (path rate invert t r bits)) b
    → AreBlocks rate invert keep ahead (Some b.end_state) (t + b.kept) (length bits - b.kept)
    (drop (steps_size rate t b.kept) (sure (path rate invert t r bits))) more
    → (b.start ≡ r) × (b.bits ≡ take (window_steps keep ahead (length bits)) bits)
    → Follows rate invert keep ahead t r bits b more
follows rate invert keep ahead starts t r bits b more one rest_are sent =
    let n : ℕ = length bits in
    let w : ℕ = window_steps keep ahead n in
    let k : ℕ = kept_steps keep ahead n in
    let wide = window-le keep ahead n in
    let less = kept-le keep ahead n in
    let kept : take b.kept b.bits ≡ take k bits = (λ i. take (one.kept i) (sent.1 i)) ∙ take-take k w bits less in
    let end : b.end_state ≡ register_after r (take k bits) = one.end_state
    ∙ (λ i. register_after (sent.0 i) (kept i)) in
    let octets : drop (steps_size rate t b.kept) (sure (path rate invert t r bits))
    ≡ sure (path rate invert (t + k) (register_after r (take k bits)) (drop k bits)) =
    ap (λ m. drop (steps_size rate t m) (sure (path rate invert t r bits))) one.kept
    ∙ (prefix-octets rate invert t r k bits (omega arith)).1 in
    let rest : length bits - b.kept ≡ length (drop k bits) = ap (λ m. length bits - m) one.kept
    ∙ sym (length-drop k bits) in
    record {
      free =
          one.metric ∙ (λ i. cost (path rate invert t (sent.0 i) (sent.1 i))
          (window-octets rate invert keep ahead starts t r bits b one i))
          ∙ cost-sure (path rate invert t r (take w bits));
      kept = kept;
      next =
          subst (λ (l : List ℕ). AreBlocks rate invert keep ahead (Some (register_after r (take k bits))) (t + k)
          (length (drop k bits)) l more) octets
          (subst (λ (m : ℕ). AreBlocks rate invert keep ahead (Some (register_after r (take k bits))) (t + k) m
          (drop (steps_size rate t b.kept) (sure (path rate invert t r bits))) more) rest
          (subst (λ (m : ℕ). AreBlocks rate invert keep ahead (Some (register_after r (take k bits))) (t + m)
          (length bits - b.kept) (drop (steps_size rate t b.kept) (sure (path rate invert t r bits))) more)
          one.kept
          (subst (λ (s : ℕ). AreBlocks rate invert keep ahead (Some s) (t + b.kept) (length bits - b.kept)
          (drop (steps_size rate t b.kept) (sure (path rate invert t r bits))) more) end rest_are)));
    }

no-bits : (bits : List ℕ) → length bits ≡ 0 → [] ≡ bits
no-bits [] e = refl
no-bits (b ∷ bits) e = absurd (omega arith)

-- from a known register
blocks-clean : (rate : Rate) (invert : Bool) (keep ahead t r : ℕ) (bits : List ℕ) (blocks : List WindowBlock) → r < 64
    → AreDigits bits
    → AreBlocks rate invert keep ahead (Some r) t (length bits) (sure (path rate invert t r bits)) blocks
    → (kept_bits blocks ≡ bits) × CostNothing blocks
blocks-clean rate invert keep ahead t r bits [] small are blocks = (no-bits bits blocks, tt)
blocks-clean rate invert keep ahead t r bits (b ∷ more) small are blocks =
    let k : ℕ = kept_steps keep ahead (length bits) in
    let w : ℕ = window_steps keep ahead (length bits) in
    let sent = best-from rate invert t r b.start (take w bits) b.bits small (digits-take w bits are)
    (window-best rate invert keep ahead (Some r) t r bits b blocks.1) in
    let f = follows rate invert keep ahead (Some r) t r bits b more blocks.1 blocks.2 sent in
    let rest = blocks-clean rate invert keep ahead (t + k) (register_after r (take k bits)) (drop k bits) more
    (register-small r (take k bits) small (digits-take k bits are)) (digits-drop k bits are) f.next in
    ((λ i. f.kept i ++ rest.0 i) ∙ take-append-drop k bits, (f.free, rest.1))

-- from any register at rate 1/2, where the first window has six steps or more
blocks-clean-any : SixPairs → (invert : Bool) (keep ahead t r : ℕ) (bits : List ℕ) (blocks : List WindowBlock)
    → r < 64 → AreDigits bits → 6 ≤ length bits → 6 ≤ keep
    → AreBlocks R12 invert keep ahead None t (length bits) (sure (path R12 invert t r bits)) blocks
    → (kept_bits blocks ≡ bits) × CostNothing blocks
blocks-clean-any six invert keep ahead t r bits [] small are many wide blocks = (no-bits bits blocks, tt)
blocks-clean-any six invert keep ahead t r bits (b ∷ more) small are many wide blocks =
    let k : ℕ = kept_steps keep ahead (length bits) in
    let w : ℕ = window_steps keep ahead (length bits) in
    let long : length (take w bits) ≡ w = length-take-le w bits (window-le keep ahead (length bits)) in
    let sent = best-any six invert t r b.start (take w bits) b.bits small (digits-take w bits are) (omega arith)
    (window-best R12 invert keep ahead None t r bits b blocks.1) in
    let f = follows R12 invert keep ahead None t r bits b more blocks.1 blocks.2 sent in
    let rest = blocks-clean R12 invert keep ahead (t + k) (register_after r (take k bits)) (drop k bits) more
    (register-small r (take k bits) small (digits-take k bits are)) (digits-drop k bits are) f.next in
    ((λ i. f.kept i ++ rest.0 i) ∙ take-append-drop k bits, (f.free, rest.1))

-- no bits have no blocks
blocks-none : (rate : Rate) (invert : Bool) (keep ahead : ℕ) (starts : Option ℕ) (t r : ℕ) (bits : List ℕ)
    (blocks : List WindowBlock) → bits ≡ []
    → AreBlocks rate invert keep ahead starts t (length bits) (sure (path rate invert t r bits)) blocks
    → (kept_bits blocks ≡ bits) × CostNothing blocks
blocks-none rate invert keep ahead starts t r bits [] none are = (sym none, tt)
blocks-none rate invert keep ahead starts t r bits (b ∷ more) none are =
    absurd (let nothing = ap length none in let some = are.0 in omega arith)

blocks-fixed : SixPairs → (s : Settings) (r : ℕ) (bits : List ℕ) (blocks : List WindowBlock) → 64 ≤ s.keep
    → AreDigits bits → IsFixed s r bits
    → AreBlocks s.rate s.invert s.keep s.ahead (first_start s.start) 0 (length bits) (sure_symbols s r bits) blocks
    → (kept_bits blocks ≡ bits) × CostNothing blocks
blocks-fixed six s r bits blocks wide are (inl zero_start) is =
    blocks-clean s.rate s.invert s.keep s.ahead 0 r bits blocks (omega (arith, zero_start.1)) are
    (subst (λ (starts : Option ℕ). AreBlocks s.rate s.invert s.keep s.ahead starts 0 (length bits)
    (sure_symbols s r bits) blocks)
    (ap first_start zero_start.0 ∙ ap Some (sym zero_start.1)) is)
blocks-fixed six s r bits blocks wide are (inr (start, half, small, inl none)) is =
    blocks-none s.rate s.invert s.keep s.ahead (first_start s.start) 0 r bits blocks none is
blocks-fixed six s r bits blocks wide are (inr (start, half, small, inr many)) is =
    blocks-clean-any six s.invert s.keep s.ahead 0 r bits blocks small are many (omega arith)
    (subst (λ (rate : Rate). AreBlocks rate s.invert s.keep s.ahead None 0 (length bits)
    (sure (path rate s.invert 0 r bits)) blocks) half
    (subst (λ (from : Start). AreBlocks s.rate s.invert s.keep s.ahead (first_start from) 0 (length bits)
    (sure_symbols s r bits) blocks) start is))

-- symbols that were not disturbed give back the bits
pub are_clean : SixPairs → (s : Settings) (r : ℕ) (bits : List ℕ) (blocks : List WindowBlock) (left : ℕ) → 64 ≤ s.keep
    → AreBits bits → IsFixed s r bits
    → AreBlocksOf s (sure_symbols s r bits) blocks left → AreClean bits blocks left
are_clean six s r bits blocks left wide are fixed of =
    let octets = sure_symbols s r bits in
    let long = length-sent s.rate s.invert 0 r bits in
    let count : of.count ≡ length bits = steps-only s.rate 0 (length bits) of.count octets long of.steps in
    let both = blocks-fixed six s r bits blocks wide (digits bits are) fixed
    (subst (λ (n : ℕ). AreBlocks s.rate s.invert s.keep s.ahead (first_start s.start) 0 n octets blocks) count of.are)
    in
    let same = ap (steps_size s.rate 0) count in
    let rest = of.rest in
    record { kept = both.0; free = both.1; whole = omega arith }

-- ---- symbols complemented

-- complementing the bits and the register complements every symbol
abbrev pub Complements : Type 0
Complements = (rate : Rate) (invert : Bool) (t register : ℕ) (bits : List ℕ) → register < 64 → AreBits bits
    → path rate invert t (63 - register) (complement bits) ≡ complement (path rate invert t register bits)

one-complemented : (symbol : ℕ) → symbol < 2 → 255 - cond (symbol == 0) 0 255 ≡ cond (1 - symbol == 0) 0 255
one-complemented symbol small = grind (arith, nat_tests)

pub complemented-sure : (symbols : List ℕ) → AreDigits symbols
    → complemented_octets (sure symbols) ≡ sure (complement symbols)
complemented-sure [] are = refl
complemented-sure (symbol ∷ symbols) are = (λ i. one-complemented symbol are.0 i ∷ complemented-sure symbols are.1 i)

pub digits-complement : (bits : List ℕ) → AreDigits (complement bits)
digits-complement [] = tt
digits-complement (b ∷ bits) = (omega arith, digits-complement bits)

some-complemented : (bits : List ℕ) → (bits ≡ []) ⊎ (6 ≤ length bits) → (complement bits ≡ [])
    ⊎ (6 ≤ length (complement bits))
some-complemented bits (inl none) = inl (ap complement none)
some-complemented bits (inr many) = inr (let long = length-map bits (λ bit. 1 - bit) in omega arith)

-- symbols complemented give back the bits complemented
pub are_complemented : SixPairs → Complements → (s : Settings) (r : ℕ) (bits : List ℕ) (blocks : List WindowBlock)
    (left : ℕ) → 64 ≤ s.keep → AreBits bits
    → s.start ≡ Any → s.rate ≡ R12 → r < 64 → (bits ≡ []) ⊎ (6 ≤ length bits)
    → AreBlocksOf s (complemented_octets (sure_symbols s r bits)) blocks left → AreClean (complement bits) blocks left
are_complemented six complements s r bits blocks left wide are start half small many of =
    let octets : complemented_octets (sure_symbols s r bits) ≡ sure_symbols s (63 - r) (complement bits) =
    complemented-sure (path s.rate s.invert 0 r bits) (bits-path s.rate s.invert 0 r bits)
    ∙ ap sure (sym (complements s.rate s.invert 0 r bits small are)) in
    are_clean six s (63 - r) (complement bits) blocks left wide
    (bits_of-digits (complement bits) (digits-complement bits))
    (inr (start, half, omega arith, some-complemented bits many))
    (subst (λ (l : List ℕ). AreBlocksOf s l blocks left) octets of)
