-- What is said of one window after another.
use Rattle.std.proofs.Common.{◌≡◌, ◌∙◌, ◌+◌, ◌++◌, ℕ, zero, suc, List, [], ◌∷◌, ap, sym, arith, append_assoc}
use Rattle.std.proofs.lemmas.List.{append-nil}
use Rattle.tm_config.specs.Configuration.{Configuration}
use Rattle.tm_viterbi.specs.WindowBlock.{WindowBlock}
use Rattle.tm_inner.specs.InnerDecoding.{InnerDecoding}
use Rattle.tm_inner.specs.InnerWindows.{window_at, window_in, windows_after, windows_from}

-- of one ready block more
pub windows-next : (d : InnerDecoding) (index count last : ℕ) → last ≡ index + count
    → windows_from d index (suc count) ≡ windows_from d index count ++ window_in d last ∷ []
windows-next d index zero last is =
    let same : index ≡ last = omega (arith, is) in ap (λ i. window_in d i ∷ []) same
windows-next d index (suc count) last is =
    ap (λ l. window_in d index ∷ l) (windows-next d (suc index) count last (omega (arith, is)))

-- of blocks after blocks
pub windows-append : (c : Configuration) (phase : ℕ) (octets : List ℕ) (before xs ys : List WindowBlock)
    → windows_after c phase octets before (xs ++ ys)
    ≡ windows_after c phase octets before xs ++ windows_after c phase octets (before ++ xs) ys
windows-append c phase octets before [] ys =
    ap (λ (b : List WindowBlock). windows_after c phase octets b ys) (sym (append-nil before))
windows-append c phase octets before (x ∷ xs) ys =
    ap (λ l. window_at c phase octets before x ∷ l)
    (windows-append c phase octets (before ++ x ∷ []) xs ys
    ∙ ap (λ (b : List WindowBlock). windows_after c phase octets (before ++ x ∷ []) xs
    ++ windows_after c phase octets b ys) (append_assoc before (x ∷ []) xs))
