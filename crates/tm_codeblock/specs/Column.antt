-- The columns of a codeblock, which are its codewords (CCSDS 131.0-B, Reed-Solomon Coding, Symbol
-- Interleaving).
use Rattle.std.specs.Prelude.{ℕ, zero, suc, ◌-◌, List, [], ◌∷◌}

-- column i at an interleaving depth: symbol i of the block, and from it on each symbol that is
-- `depth` places after the last
abbrev pub column : {X : Type 0} → ℕ → ℕ → List X → List X
column depth i [] = []
column depth zero (symbol ∷ block) = symbol ∷ column depth (depth - 1) block
column depth (suc i) (symbol ∷ block) = column depth i block
