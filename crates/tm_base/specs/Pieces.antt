-- What is fed in pieces and writes as it goes. It keeps no history: a relation says for which
-- lists, given so far, it stands.
use Rattle.std.specs.Prelude.{◌≡◌, ℕ, List, ◌++◌, drop, length, Option}
use Rattle.tm_base.specs.Written.{Wrote, WrotePrefix}

-- what stands in `all` after a prefix as long as `prefix`
abbrev pub beyond : {A : Type 0} → List A → List A → List A
beyond prefix all = drop (length prefix) all

-- what is due once `piece` follows `given`, beyond what was due for `given`
abbrev pub further : (List ℕ → List ℕ) → List ℕ → List ℕ → List ℕ
further due given piece = beyond (due given) (due (given ++ piece))

-- what is due for a longer list goes on from what is due for a prefix of it
abbrev pub GoesOn : (List ℕ → List ℕ) → Type 0
GoesOn due = (given piece : List ℕ) → due (given ++ piece) ≡ due given ++ further due given piece

-- fed the piece, a value stands for each list for which it stood followed by the piece, and has
-- written what is due beyond
pub record Fed {S : Type 0} (stands_for : S → List ℕ → Type 0) (due : List ℕ → List ℕ)
    (before now : S) (taken taken_now : Option (List ℕ)) (piece : List ℕ) : Type 0 where
  pub stands : (given : List ℕ) → stands_for before given → stands_for now (given ++ piece)
  pub written : (given : List ℕ) → stands_for before given
      → Wrote taken taken_now (further due given piece)

-- fed the piece, a value has written a prefix of what is due beyond
pub record FedPrefix {S : Type 0} (stands_for : S → List ℕ → Type 0) (due : List ℕ → List ℕ)
    (before : S) (taken taken_now : Option (List ℕ)) (piece : List ℕ) : Type 0 where
  pub prefix : (given : List ℕ) → stands_for before given
      → WrotePrefix taken taken_now (further due given piece)
