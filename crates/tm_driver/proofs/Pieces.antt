-- Octets that were given before, and those of a piece up to a place and after it.
use Rattle.std.proofs.Common.{◌≡◌, ℕ, ◌+◌, ◌-◌, List, ◌++◌, length, take, drop, sym, ap, ◌∙◌, append_assoc, take-append-drop}
use Rattle.std.proofs.Math.Seq.{take-add}
use Rattle.std.proofs.lemmas.List.{take_rest}

pub piece-more : (given piece : List ℕ) (at count : ℕ) → (given ++ take at piece)
    ++ take count (take (length piece - at) (drop at piece)) ≡ given ++ take (at + count) piece
piece-more given piece at count =
    append_assoc given (take at piece) (take count (take (length piece - at) (drop at piece)))
    ∙ ap (λ l. given ++ l) (ap (λ l. take at piece ++ take count l) (take_rest piece at)
    ∙ sym (take-add at count piece))

pub piece-all : (given piece : List ℕ) (count : ℕ) → (given ++ take count piece) ++ drop count piece ≡ given ++ piece
piece-all given piece count =
    append_assoc given (take count piece) (drop count piece) ∙ ap (λ l. given ++ l) (take-append-drop count piece)
