-- Options, as a program in C passes them.
use Rattle.std.proofs.Common.{◌≡◌, ◌≤◌, ◌-◌, ◌∙◌, ℕ, Bool, List, length, take, drop, min, sym, ap, arith, length-drop}
use Rattle.std.proofs.lemmas.List.{drop_min, take_all}
use Rattle.tmchan_c.specs.Options.{are_zero}

-- what stands behind the options is zero or not, where that was looked for to the end
pub behind : (options : List ℕ) (from : ℕ) (zero : Bool) → from ≡ min 24 (length options)
    → zero ≡ are_zero (take (length options - from) (drop from options)) → are_zero (drop 24 options) ≡ zero
behind options from zero first is =
    let short : length (drop from options) ≤ length options - from = omega (arith, length-drop from options) in
    let all = ap (λ (n : ℕ). drop n options) first ∙ drop_min 24 options in
    ap are_zero (sym all ∙ sym (take_all (length options - from) (drop from options) short)) ∙ sym is
