-- Octets that are pushed, a part at a time, and then the next window.
use Rattle.std.proofs.Common.{◌≡◌, ℕ, ◌+◌, ◌-◌, ◌≤◌, List, [], ◌∷◌, ◌++◌, length, take, drop, sym, ap, ◌∙◌, arith, take-add, append_assoc}
use Rattle.std.proofs.Math.Path.{transport}
use Rattle.std.proofs.lemmas.List.{length-append, drop_all, drop-take, drop-drop}
use Rattle.tm_conv.specs.Path.{steps_size}
use Rattle.tm_cert_file.specs.declared.seen.Seen.TheVariants.{More, Passed}
use Rattle.tm_cert_file.specs.Window.{Window, window_in, window_size, steps_in}
use Rattle.tm_cert_file.specs.Before.{Rules, Before, at_first, after_window}
use Rattle.tm_cert_file.specs.Seen.{IsSeen}
use Rattle.tm_cert_file.specs.File.{ArePassed}
use Rattle.tm_cert_file.proofs.Passing.{passed-more, passed-push}
use Rattle.tm_cert_file.proofs.Prefixes.{steps_in-prefix}

-- some of a piece were taken, and then the first of the rest
pub taken_more : (taken count number : ℕ) (first octets piece : List ℕ) → octets ≡ first ++ take taken piece
    → taken + count ≡ number → octets ++ take count (drop taken piece) ≡ first ++ take number piece
taken_more taken count number first octets piece was is =
    ap (λ v. v ++ take count (drop taken piece)) was
    ∙ append_assoc first (take taken piece) (take count (drop taken piece))
    ∙ ap (λ v. first ++ v) (sym (take-add taken count piece)) ∙ ap (λ n. first ++ take n piece) is

-- a window that is whole by one octet more has no further ones
pub only_just : (rules : Rules) (before : Before) (xs ys : List ℕ) → length ys ≤ 1 → IsSeen rules before xs More
    → window_size rules.rate before.t (steps_in (xs ++ ys)) ≤ length (xs ++ ys)
    → length (xs ++ ys) ≡ window_size rules.rate before.t (steps_in (xs ++ ys))
only_just rules before xs ys one seen whole =
    let long = length-append xs ys in
    let same = steps_in-prefix xs ys (omega arith) in
    omega (arith, ap (steps_size rules.rate before.t) same)

-- what a certificate stands for, with more octets
pub stands_more : (rules rules' : Rules) (before before' : Before) (octets octets' more : List ℕ) → rules' ≡ rules
    → before' ≡ before → octets' ≡ octets ++ more
    → (given : List ℕ) (windows : List Window) → ArePassed rules (at_first rules) given windows before octets
    → ArePassed rules' (at_first rules') (given ++ more) windows before' octets'
stands_more rules rules' before before' octets octets' more a b c given windows are =
    transport (λ i. ArePassed (sym a i) (at_first (sym a i)) (given ++ more) windows (sym b i) (sym c i))
    (passed-more rules (at_first rules) before given octets more windows are)

-- ---- the next window

-- after some of the soft octets
pub rest_of : (place some all width : ℕ) (octets : List ℕ) → some ≤ all → width ≡ all - some
    → take width (drop (place + some) octets) ≡ drop some (take all (drop place octets))
rest_of place some all width octets le is =
    let sum : some + width ≡ all = omega arith in
    ap (take width) (sym (drop-drop some place octets)) ∙ sym (drop-take some width (drop place octets))
    ∙ ap (λ v. drop some (take v (drop place octets))) sum

pub stands_advanced : (rules rules' : Rules) (before before' : Before) (octets octets' : List ℕ) → rules' ≡ rules
    → before' ≡ after_window rules before (window_in rules.rate before.t octets)
    → octets' ≡ [] → length octets ≡ window_size rules.rate before.t (steps_in octets)
    → IsSeen rules before octets Passed
    → (given : List ℕ) (windows : List Window) → ArePassed rules (at_first rules) given windows before octets
    → ArePassed rules' (at_first rules') given (windows ++ window_in rules.rate before.t octets ∷ []) before' octets'
stands_advanced rules rules' before before' octets octets' a b c just seen given windows are =
    let rest : drop (window_size rules.rate before.t (steps_in octets)) octets ≡ octets'
    = drop_all _ octets (omega (arith, just)) ∙ sym c in
    transport (λ i. ArePassed (sym a i) (at_first (sym a i)) given (windows ++ window_in rules.rate before.t octets ∷ [])
    (sym b i) (rest i)) (passed-push rules (at_first rules) before given octets windows are seen)
