-- What octets that are left add to a path metric at least.
use Rattle.std.proofs.Common.{◌≡◌, ℕ, suc, ◌+◌, ◌-◌, ◌<◌, ◌≤◌, ◌∙◌, sym, ap, arith, refl, min, Bool, List, [], ◌∷◌, ◌++◌, length, length-append, length-drop, take, drop, slice_index}
use Rattle.std.specs.List.{All}
use Rattle.std.proofs.lemmas.Bool.Decides.{nat_tests}
use Rattle.std.proofs.lemmas.List.{length-take-le, take-append-drop, drop-drop, length-reverse, reverse-reverse}
use Rattle.std.proofs.lemmas.List.Elements.{All-take}
use Rattle.std.proofs.Math.Seq.{take-add}
use mathlib.Core.List.{reverse}
use Rattle.tm_conv.specs.declared.rates.Rate.{Rate}
use Rattle.tm_conv.specs.Path.{path, steps_size, register_after}
use Rattle.tm_conv.specs.Cost.{cost, distance}
use Rattle.tm_conv.specs.Best.{IsCandidate}
use Rattle.tm_conv.proofs.Paths.{length-path, path-append, cost-append}
use Rattle.tm_conv.proofs.DictionaryOrder.{All-reverse}
use Rattle.tm_viterbi.specs.Distances.{least_distances}
use Rattle.tm_viterbi.specs.Walk.{register_back, rank, IsPathTo, IsNoWorse, AreBest, past_of, start_of}
use Rattle.tm_viterbi.specs.Totals.{total_of, AreFirsts}
use Rattle.tm_viterbi.proofs.Walk.{register_back_lt}
use Rattle.tm_viterbi.proofs.Final.{first_cost-start}
use Rattle.tm_viterbi.proofs.LeastCost.{steps_le}

pub least_distances-append : (octets others : List ℕ) → least_distances (octets ++ others)
    ≡ least_distances octets + least_distances others
least_distances-append [] others = omega arith
least_distances-append (octet ∷ octets) others = omega (arith, least_distances-append octets others)

one_least : (symbol octet : ℕ) → min octet (255 - octet) ≤ distance symbol octet
one_least symbol octet = grind (arith, nat_tests)

-- symbols cost no less
pub least_distances-le : (symbols octets : List ℕ) → length symbols ≡ length octets
    → least_distances octets ≤ cost symbols octets
least_distances-le [] [] same = omega arith
least_distances-le [] (octet ∷ octets) same = absurd (let h : 0 ≡ suc (length octets) = same in omega arith)
least_distances-le (symbol ∷ symbols) [] same = absurd (let h : suc (length symbols) ≡ 0 = same in omega arith)
least_distances-le (symbol ∷ symbols) (octet ∷ octets) same =
    let long : suc (length symbols) ≡ suc (length octets) = same in
    omega (arith, one_least symbol octet, least_distances-le symbols octets (omega (arith, long)))

-- ---- a path over all octets costs no less than the least path metric so far and the least of the octets left

-- what a candidate costs up to a step, and from there on
record Parts (rate : Rate) (invert : Bool) (t done at initial : ℕ) (soft bits : List ℕ) : Type 0 where
  head : length (take done bits) ≡ done
  size : length (take at soft) ≡ length (path rate invert t initial (take done bits))
  more : least_distances (drop at soft) + cost (path rate invert t initial (take done bits)) (take at soft)
      ≤ cost (path rate invert t initial bits) soft

parts : (rate : Rate) (invert : Bool) (t done at initial : ℕ) (soft bits : List ℕ)
    → at ≡ steps_size rate t done → at ≤ length soft
    → length (path rate invert t initial bits) ≡ length soft → Parts rate invert t done at initial soft bits
parts rate invert t done at initial soft bits place within covers =
    let head = take done bits in
    let tail = drop done bits in
    let count : steps_size rate t (length bits) ≡ length soft = sym (length-path rate invert t initial bits) ∙ covers in
    let long : length head ≡ done = length-take-le done bits
    (steps_le rate t done (length bits) (omega (arith, place, within, count))) in
    let first = path rate invert t initial head in
    let second = path rate invert (t + length head) (register_after initial head) tail in
    let whole : path rate invert t initial bits ≡ first ++ second =
    ap (path rate invert t initial) (sym (take-append-drop done bits)) ∙ path-append rate invert t initial head tail in
    let size : length (take at soft) ≡ length first =
    length-take-le at soft within ∙ place ∙ ap (steps_size rate t) (sym long)
    ∙ sym (length-path rate invert t initial head) in
    let rest : length second ≡ length (drop at soft) =
    omega (
      arith,
      sym (length-append first second) ∙ ap length (sym whole) ∙ covers,
      size,
      length-take-le at soft within,
      length-drop at soft,
    ) in
    let sum : cost (path rate invert t initial bits) soft ≡ cost first (take at soft) + cost second (drop at soft) =
    (λ i. cost (whole i) (sym (take-append-drop at soft) i))
    ∙ cost-append first (take at soft) second (drop at soft) (sym size) in
    record {
      head = long;
      size = size;
      more = omega (arith, sum, least_distances-le second (drop at soft) rest);
    }

pub settled : (starts : ℕ → Bool) (rate : Rate) (invert : Bool) (t done at least : ℕ)
    (firsts soft sums survivors : List ℕ)
    → AreFirsts starts firsts → at ≡ steps_size rate t done → at ≤ length soft
    → AreBest (total_of rate invert t firsts (take at soft)) done sums survivors
    → ((s : ℕ) → s < 64 → least ≤ slice_index sums s) → (initial : ℕ) (bits : List ℕ)
    → IsCandidate starts rate invert t soft initial bits
    → least + least_distances (drop at soft) ≤ cost (path rate invert t initial bits) soft
settled starts rate invert t done at least firsts soft sums survivors are place within best below initial bits is =
    let cut = parts rate invert t done at initial soft bits place within is.covers in
    let head = take done bits in
    let other = reverse head in
    let each : All (λ b. b < 2) other = All-reverse head (All-take (λ b. b < 2) done bits is.each) in
    let p = register_back initial other in
    let small : p < 64 = register_back_lt initial other is.register each in
    let to : IsPathTo done p initial other = record {
      start = is.register;
      each = each;
      long = length-reverse head ∙ cut.head;
      ends = refl;
    } in
    let there : IsNoWorse (slice_index sums p) (rank (start_of survivors p) (past_of survivors p))
    (total_of rate invert t firsts (take at soft) initial other) (rank initial other) =
    (best p small).best initial other to in
    let free : slice_index firsts initial ≡ 0 = are initial is.register ∙ first_cost-start starts initial is.start in
    let same : total_of rate invert t firsts (take at soft) initial other
    ≡ slice_index firsts initial + cost (path rate invert t initial head) (take at soft) =
    ap (λ v. slice_index firsts initial + cost (path rate invert t initial v) (take at soft)) (reverse-reverse head) in
    omega (arith, below p small, there.least, same, free, cut.more)

-- what is left after a piece
pub left_after : (at size : ℕ) (soft : List ℕ) → least_distances (drop at soft)
    ≡ least_distances (take (at + size - at) (drop at soft)) + least_distances (drop (at + size) soft)
left_after at size soft =
    let same : at + size - at ≡ size = omega arith in
    ap least_distances (sym (take-append-drop size (drop at soft)))
    ∙ least_distances-append (take size (drop at soft)) (drop size (drop at soft))
    ∙ (λ i. least_distances (take (sym same i) (drop at soft)) + least_distances (drop-drop size at soft i))

-- a part of octets costs no more than all
pub least_distances-part : (skip size all : ℕ) (octets : List ℕ) → skip + size ≤ all
    → least_distances (take size (drop skip octets)) ≤ least_distances (take all octets)
least_distances-part skip size all octets inside =
    let rest = all - (skip + size) in
    let later = drop skip octets in
    let whole : take all octets ≡ take skip octets ++ (take size later ++ take rest (drop size later)) =
    ap (λ (n : ℕ). take n octets) (let same : all ≡ skip + (size + rest) = omega (arith, inside) in same)
    ∙ take-add skip (size + rest) octets ∙ ap (λ l. take skip octets ++ l) (take-add size rest later) in
    omega (
      arith,
      ap least_distances whole,
      least_distances-append (take skip octets) (take size later ++ take rest (drop size later)),
      least_distances-append (take size later) (take rest (drop size later)),
    )
