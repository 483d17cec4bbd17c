-- Columns that pass are below the cost of each candidate.
use Rattle.std.proofs.Common.{◌≡◌, ℕ, suc, ◌+◌, ◌-◌, ◌<◌, ◌≤◌, List, [], ◌∷◌, length, get_or, take, drop, refl, sym, ap, subst, ◌∙◌, arith, Option, None}
use Rattle.std.proofs.lemmas.List.{drop-drop, length-drop}
use Rattle.std.proofs.lemmas.List.Elements.{All-head, All-tail}
use Rattle.tm_conv.specs.Path.{AreBits, next_register, register_after, step_symbols, step_size, steps_size, path}
use Rattle.tm_conv.specs.Cost.{cost}
use Rattle.tm_conv.specs.Best.{IsCandidate}
use Rattle.tm_conv.proofs.Sizes.{steps_size-suc, same_from_steps_size}
use Rattle.tm_conv.proofs.Paths.{length-path}
use Rattle.tm_path_cert.specs.Claim.{Claim, is_start, edge_cost, path_cost}
use Rattle.tm_path_cert.specs.Tests.{AllHold, Pass, column_at, last_of}
use Rattle.tm_path_cert.specs.Checking.{Checking, CheckStandsFor, IsFound}
use Rattle.tm_path_cert.proofs.Costs.{steps_size-none, steps_size-next, cost-step}

-- from column k on, the last column is no more than column k and the cost of the path's rest
bound : (claim : Claim) (columns : List (List ℕ)) (n k p r : ℕ) (bits : List ℕ) → AllHold claim columns
    → length columns ≡ n + 1
    → r < 64 → AreBits bits → k + length bits ≡ n → p ≡ steps_size claim.rate claim.first k
    → length (drop p claim.soft) ≡ steps_size claim.rate (claim.first + k) (length bits)
    → get_or (column_at columns n) (register_after r bits) 0
    ≤ get_or (column_at columns k) r 0 + cost (path claim.rate claim.invert (claim.first + k) r bits)
    (drop p claim.soft)
bound claim columns n k p r [] holds long small are at place left =
    let same : n ≡ k = omega (arith, at) in
    let h : get_or (column_at columns n) r 0 ≡ get_or (column_at columns k) r 0 =
    ap (λ v. get_or (column_at columns v) r 0) same in
    omega (arith, h)
bound claim columns n k p r (b ∷ bits) holds long small are at place left =
    let bit : b < 2 = All-head (λ bit. bit < 2) b bits are in
    let rest = All-tail (λ bit. bit < 2) b bits are in
    let r' = next_register r b in
    let t = claim.first + k in
    let size = step_size claim.rate t in
    let here = drop p claim.soft in
    let later : claim.first + suc k ≡ t + 1 = omega arith in
    let split : length here ≡ size + steps_size claim.rate (t + 1) (length bits) = left
    ∙ steps_size-next claim.rate t (length bits) in
    let step : get_or (column_at columns (suc k)) r' 0 ≤ get_or
    (column_at columns (suc k - 1)) r 0 + edge_cost claim k r b
    = holds (suc k) r' (omega (arith, long, at)) (omega (arith, small, bit)) r b small bit refl in
    let back : get_or (column_at columns (suc k - 1)) r 0 ≡ get_or (column_at columns k) r 0 =
    ap (λ v. get_or (column_at columns v) r 0) (let e : suc k - 1 ≡ k = omega arith in e) in
    let edge : edge_cost claim k r b ≡ cost (step_symbols claim.rate claim.invert t r b) (take size here)
    = ap (λ v. cost (step_symbols claim.rate claim.invert t r b) (take size (drop v claim.soft))) (sym place) in
    let more : p + size ≡ steps_size claim.rate claim.first (suc k) =
    omega (arith, place, steps_size-suc claim.rate claim.first k) in
    let moved : drop size here ≡ drop (p + size) claim.soft = drop-drop size p claim.soft in
    let rest_left : length (drop (p + size) claim.soft) ≡ steps_size claim.rate (claim.first + suc k) (length bits)
    =
    sym (ap length moved) ∙ length-drop size here
    ∙ omega (arith, split, ap (λ v. steps_size claim.rate v (length bits)) later) in
    let h = bound claim columns n (suc k) (p + size) r' bits holds long (omega (arith, small, bit)) rest
    (omega (arith, at)) more rest_left in
    let whole = cost-step claim.rate claim.invert t r b bits here (omega (arith, split)) in
    let tail : cost (path claim.rate claim.invert (t + 1) r' bits) (drop size here)
    ≡ cost (path claim.rate claim.invert (claim.first + suc k) r' bits) (drop (p + size) claim.soft)
    =
    ap (λ v. cost (path claim.rate claim.invert (t + 1) r' bits) v) moved
    ∙ ap (λ v. cost (path claim.rate claim.invert v r' bits) (drop (p + size) claim.soft)) (sym later) in
    omega (arith, step, back, edge, h, whole, tail)

register_after_lt : (r : ℕ) (bits : List ℕ) → r < 64 → AreBits bits → register_after r bits < 64
register_after_lt r [] small are = small
register_after_lt r (b ∷ bits) small are =
    let bit : b < 2 = All-head (λ bit. bit < 2) b bits are in
    register_after_lt (next_register r b) bits (omega (arith, small, bit)) (All-tail (λ bit. bit < 2) b bits are)

pub Pass-least : (claim : Claim) (columns : List (List ℕ)) (metric n initial : ℕ) (others : List ℕ)
    → Pass claim columns metric
    → length columns ≡ n + 1 → length claim.soft ≡ steps_size claim.rate claim.first n
    → IsCandidate (is_start claim.starts) claim.rate claim.invert claim.first claim.soft initial others
    → metric ≤ path_cost claim initial others
Pass-least claim columns metric n initial others pass long covers c =
    let count : length others ≡ n = same_from_steps_size claim.rate claim.first (length others) n
    (sym (length-path claim.rate claim.invert claim.first initial others) ∙ c.covers ∙ covers) in
    let from : claim.first + 0 ≡ claim.first = omega arith in
    let h = bound claim columns n 0 0 initial others pass.columns_hold long c.register c.each (omega (arith, count))
    (sym (steps_size-none claim.rate claim.first))
    (covers ∙ ap (steps_size claim.rate claim.first) (sym count)
    ∙ ap (λ v. steps_size claim.rate v (length others)) (sym from)) in
    let zero_sum : get_or (column_at columns 0) initial 0 ≡ 0 =
    pass.columns_hold 0 initial (omega (arith, long)) c.register c.start in
    let end : metric ≤ get_or (last_of columns) (register_after initial others) 0 =
    pass.at_least (register_after initial others) (register_after_lt initial others c.register c.each) in
    let last : get_or (last_of columns) (register_after initial others) 0
    ≡ get_or (column_at columns n) (register_after initial others) 0
    =
    ap (λ v. get_or (column_at columns v) (register_after initial others) 0)
    (let e : length columns - 1 ≡ n = omega (arith, long) in e) in
    let same : cost (path claim.rate claim.invert (claim.first + 0) initial others) claim.soft
    ≡ path_cost claim initial others
    = ap (λ v. cost (path claim.rate claim.invert v initial others) claim.soft) from in
    omega (arith, h, zero_sum, end, last, same)

pub finish-least : (check : Checking) (columns : List (List ℕ)) (metric n initial : ℕ) (others last : List ℕ)
    → CheckStandsFor check columns → check.wrong ≡ None
    → check.count ≡ n + 1 → check.last ≡ last → ((r : ℕ) → r < 64 → metric ≤ get_or last r 0)
    → length check.claim.soft ≡ steps_size check.claim.rate check.claim.first n
    → IsCandidate (is_start check.claim.starts) check.claim.rate check.claim.invert check.claim.first check.claim.soft
    initial others
    → metric ≤ path_cost check.claim initial others
finish-least check columns metric n initial others last stands right count is_last at_least covers candidate =
    let P : Option (ℕ × ℕ) → Type 0 = λ wrong. IsFound check.claim columns wrong in
    let same : last_of columns ≡ last = sym (stands.last (omega (arith, count))) ∙ is_last in
    let Q : List ℕ → Type 0 = λ v. (r : ℕ) → r < 64 → metric ≤ get_or v r 0 in
    let pass : Pass check.claim columns metric = record {
      columns_hold = subst P right stands.found;
      at_least = subst Q (sym same) at_least;
    } in
    Pass-least check.claim columns metric n initial others pass (sym stands.count ∙ count) covers candidate
