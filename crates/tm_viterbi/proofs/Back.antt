-- A path with its newest bit first, against the same path in order.
use Rattle.std.proofs.Common.{◌≡◌, ℕ, ◌∙◌, ap, List, [], ◌∷◌, ◌++◌, refl}
use Rattle.std.proofs.lemmas.List.{reverse-append}
use mathlib.Core.List.{reverse}
use Rattle.tm_conv.specs.Path.{next_register, register_after}
use Rattle.tm_conv.proofs.Paths.{register_after-push}
use Rattle.tm_viterbi.specs.Walk.{register_back}

pub reverse_cons : (b : ℕ) (past : List ℕ) → reverse (b ∷ past) ≡ reverse past ++ b ∷ []
reverse_cons b past = reverse-append (b ∷ []) past

pub register_after-reverse : (r : ℕ) (past : List ℕ) → register_after r (reverse past) ≡ register_back r past
register_after-reverse r [] = refl
register_after-reverse r (b ∷ past) =
    ap (register_after r) (reverse_cons b past) ∙ register_after-push r (reverse past) b
    ∙ ap (λ v. next_register v b) (register_after-reverse r past)
