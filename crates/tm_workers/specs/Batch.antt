-- Batches: lists of words, each of which changes in its place.
use Rattle.std.specs.Prelude.{ℕ, ◌^◌, ◌<◌, ◌≤◌, List}
use Rattle.std.specs.List.{AllZip}
use Rattle.tm_base.specs.Limits.{most_workers}

-- each word of the first list becomes the word in its place in the second, which is as long
abbrev pub EachBecomes : {W : Type 0} → (W → W → Type 0) → List W → List W → Type 0
EachBecomes becomes ws ws' = AllZip becomes ws ws'

-- a batch has fewer words than this
abbrev pub words_bound : ℕ
words_bound = 2 ^ 32

-- a batch of `words` words that `workers` workers are to decode, with a repair bound of at most e
pub record IsBatch (e repair words workers : ℕ) : Type 0 where
  pub bound : repair ≤ e
  pub count : words < words_bound
  pub some : (0 < workers) × (workers ≤ most_workers)
