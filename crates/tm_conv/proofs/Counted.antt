-- What octets say against symbols, a step at a time.
use Rattle.std.proofs.Common.{◌≡◌, ℕ, zero, suc, ◌+◌, ◌-◌, ◌%◌, ◌<◌, ◌≤◌, ◌∙◌, ◌++◌, Bool, List, [], ◌∷◌, length, take, drop, get_or, refl, sym, ap, arith, length-append}
use Rattle.std.specs.Prelude.{if◌then◌else◌, nat_eq, sum_by}
use Rattle.std.proofs.lemmas.List.{take-append-drop, at_drop_more, drop-drop, length-drop, length-take-le}
use Rattle.std.proofs.lemmas.List.Sums.{sum_by-append}
use Rattle.tm_conv.specs.declared.rates.Rate.{Rate}
use Rattle.tm_conv.specs.declared.counts.SymbolCounts.{SymbolCounts}
use Rattle.tm_base.specs.Bits.{bit_number}
use Rattle.tm_conv.specs.declared.encoder.Symbols.{Symbols}
use Rattle.tm_conv.specs.Path.{c1, c2, next_register, sent, step_symbols, step_size, steps_size, path, period}
use Rattle.tm_conv.specs.Encoding.{symbol_list}
use Rattle.tm_conv.specs.Cost.{distance}
use Rattle.tm_conv.specs.Counts.{added, counts_by, distances, is_wrong, none_counted, square}
use Rattle.tm_conv.proofs.Encoded.{sent-position}
use Rattle.tm_conv.proofs.Paths.{length-step_symbols, steps_size-more}
use Rattle.tm_conv.proofs.Sizes.{steps_size-le}

pub distances-append : (xs ys us vs : List ℕ) → length xs ≡ length ys
    → distances (xs ++ us) (ys ++ vs) ≡ distances xs ys ++ distances us vs
distances-append [] [] us vs e = refl
distances-append [] (y ∷ ys) us vs e = absurd (let h : 0 ≡ suc (length ys) = e in omega arith)
distances-append (x ∷ xs) [] us vs e = absurd (let h : suc (length xs) ≡ 0 = e in omega arith)
distances-append (x ∷ xs) (y ∷ ys) us vs e =
    let l : length xs ≡ length ys = (let h : suc (length xs) ≡ suc (length ys) = e in omega arith) in
    ap (λ l. distance x y ∷ l) (distances-append xs ys us vs l)

pub added-append : (counts : SymbolCounts) (xs ys : List ℕ)
    → added (added counts xs) ys ≡ added counts (xs ++ ys)
added-append counts xs ys =
    let octets : counts.octets + length xs + length ys ≡ counts.octets + length (xs ++ ys) =
    omega (arith, length-append xs ys) in
    let by = λ (f : ℕ → ℕ) (n : ℕ). let e : n + sum_by f xs + sum_by f ys ≡ n + sum_by f (xs ++ ys) =
    omega (arith, sum_by-append f xs ys) in e in
    λ i. record {
      octets = octets i;
      wrong = by (λ x. if is_wrong x then 1 else 0) counts.wrong i;
      distance = by (λ x. x) counts.distance i;
      squares = by square counts.squares i;
    }

pub none-added : (far : List ℕ) → added none_counted far ≡ counts_by far
none-added far =
    let same = λ (n : ℕ). let e : 0 + n ≡ n = omega arith in e in
    λ i. record {
      octets = same (length far) i;
      wrong = same (sum_by (λ x. if is_wrong x then 1 else 0) far) i;
      distance = same (sum_by (λ x. x) far) i;
      squares = same (sum_by square far) i;
    }

-- a path's octets are those of its first step, and those of the rest
pub distances-step : (rate : Rate) (invert : Bool) (t register bit : ℕ) (bits octets : List ℕ)
    → step_size rate t ≤ length octets
    → distances (path rate invert t register (bit ∷ bits)) octets
    ≡ distances (step_symbols rate invert t register bit) (take (step_size rate t) octets)
    ++ distances (path rate invert (t + 1) (next_register register bit) bits) (drop (step_size rate t) octets)
distances-step rate invert t register bit bits octets fit =
    let size = step_size rate t in
    let here = step_symbols rate invert t register bit in
    let rest = path rate invert (t + 1) (next_register register bit) bits in
    ap (distances (here ++ rest)) (sym (take-append-drop size octets))
    ∙ distances-append here (take size octets) rest (drop size octets)
    (length-step_symbols rate invert t register bit ∙ sym (length-take-le size octets fit))

-- what is counted of a path up to a step, and what is left
pub counted-step : (rate : Rate) (invert : Bool) (t u register place end i : ℕ) (bits octets : List ℕ)
    (counts now total : SymbolCounts) → u ≡ t + 1 → i < length bits → end ≡ place + step_size rate t
    → end ≤ length octets
    → now ≡ added counts (distances (step_symbols rate invert t register (get_or bits i 0))
    (take (end - place) (drop place octets)))
    → added counts (distances (path rate invert t register (drop i bits)) (drop place octets)) ≡ total
    → added now (distances (path rate invert u (next_register register (get_or bits i 0)) (drop (i + 1) bits))
    (drop end octets)) ≡ total
counted-step rate invert t u register place end i bits octets counts now total same lt to fit is h =
    let b = get_or bits i 0 in
    let rest = drop (i + 1) bits in
    let size = step_size rate t in
    let here = drop place octets in
    let width : end - place ≡ size = omega (arith, to) in
    let first = distances (step_symbols rate invert t register b) (take size here) in
    let left = λ (v : ℕ) (l : List ℕ). distances (path rate invert v (next_register register b) rest) l in
    let moved : drop end octets ≡ drop size here = ap (λ v. drop v octets) to ∙ sym (drop-drop size place octets) in
    ap (λ (n : SymbolCounts). added n (left u (drop end octets)))
    (is ∙ ap (λ v. added counts (distances (step_symbols rate invert t register b) (take v here))) width)
    ∙ ap (λ v. added (added counts first) (left v (drop end octets))) same
    ∙ ap (λ l. added (added counts first) (left (t + 1) l)) moved
    ∙ added-append counts first (left (t + 1) (drop size here))
    ∙ ap (added counts) (sym (distances-step rate invert t register b rest here
    (omega (arith, length-drop place octets, to, fit))))
    ∙ sym (at_drop_more (λ v. added counts (distances (path rate invert t register v) here)) bits i 0 lt)
    ∙ h

-- ---- a step of a path

pub step-place : (rate : Rate) (t i place size : ℕ) → place ≡ steps_size rate t i → size ≡ step_size rate (t + i)
    → place + size ≡ steps_size rate t (i + 1)
step-place rate t i place size at is = omega (arith, at, is, steps_size-more rate t i)

pub step-fits : (rate : Rate) (t i place size count : ℕ) → i < count → place ≡ steps_size rate t i
    → size ≡ step_size rate (t + i) → place + size ≤ steps_size rate t count
step-fits rate t i place size count lt at is =
    omega (
      arith,
      step-place rate t i place size at is,
      steps_size-le rate t (i + 1) count (omega (arith, lt)),
    )

pub bit-of : (n : ℕ) → n < 2 → bit_number (nat_eq n 1) ≡ n
bit-of zero few = refl
bit-of (suc zero) few = refl
bit-of (suc (suc n)) few = absurd (omega (arith, few))

-- what is kept of its sums are its symbols
pub kept-symbols : (rate : Rate) (invert : Bool) (t position register bit : ℕ) (first second given : Bool)
    (symbols : Symbols) → bit_number given ≡ bit → position ≡ t % period rate
    → bit_number first ≡ c1 register (bit_number given) → bit_number second ≡ c2 register (bit_number given)
    → symbol_list symbols ≡ sent rate invert position (bit_number first) (bit_number second)
    → symbol_list symbols ≡ step_symbols rate invert t register bit
kept-symbols rate invert t position register bit first second given symbols is at one two are =
    are
    ∙ (λ i. sent rate invert (at i) (one i) (two i))
    ∙ sent-position rate invert t (c1 register (bit_number given)) (c2 register (bit_number given))
    ∙ ap (step_symbols rate invert t register) is
