-- Bits at which 32 bits match, or match in no way.
use Rattle.std.proofs.Common.{◌≡◌, ℕ, ◌+◌, ◌-◌, ◌≤◌, Bool, List, length, take, drop, is_some, sym, ap, ◌∙◌, ⊎_elim, arith}
use Rattle.std.proofs.lemmas.Bool.{cases_lt}
use Rattle.std.proofs.lemmas.List.{drop-drop}
use Rattle.tm_sync.specs.Places.{Rules, match_of}
use Rattle.tm_sync.specs.Searching.{IsFirstMatch, NoneMatch}
use Rattle.tm_sync.proofs.Looks.{match-received}

-- how the first 32 bits match, whatever follows
pub match-first : (rules : Rules) (xs ys : List Bool) → 32 ≤ length xs → 32 ≤ length ys
    → take 32 xs ≡ take 32 ys → match_of rules xs ≡ match_of rules ys
match-first rules xs ys long long' same =
    sym (match-received rules xs long) ∙ ap (match_of rules) same ∙ match-received rules ys long'

-- at none of some bits 32 bits match, and at none of the next ones
pub none-more : (rules : Rules) (a b : ℕ) (bits : List Bool) → NoneMatch rules a bits
    → NoneMatch rules b (drop a bits) → NoneMatch rules (a + b) bits
none-more rules a b bits first next = λ q below.
    ⊎_elim (first q) (λ later.
    let is : a + (q - a) ≡ q = omega arith in
    ap (λ n. match_of rules (drop n bits)) (sym is)
    ∙ ap (match_of rules) (sym (drop-drop (q - a) a bits))
    ∙ next (q - a) (omega arith)) (cases_lt q a)

-- the first match after these
pub first-more : (rules : Rules) (a most all first : ℕ) (bits : List Bool) → NoneMatch rules a bits
    → IsFirstMatch rules (drop a bits) most first → a + most ≡ all
    → IsFirstMatch rules bits all (a + first)
first-more rules a most all first bits none next is = record {
  none = none-more rules a first bits none next.none;
  some = λ below. ap (λ l. is_some (match_of rules l)) (sym (drop-drop first a bits))
      ∙ next.some (omega arith);
}
