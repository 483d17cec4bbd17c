-- The state of the recurrence while it takes in one term after another.
use Rattle.std.specs.Prelude.{◌≡◌, ◌≢◌, ◌<◌, ◌≤◌, ◌+◌, ◌*◌, ◌⊎◌, ℕ, List}
use Rattle.tm_rs_code.specs.Code.{weight, longest_word}
use Rattle.tm_rs_code.specs.Pattern.{Explains}
use Rattle.tm_rs_code.specs.Recurrence.{Failed, Generates}

-- b is the recurrence before the length last grew to l: it failed m terms ago, by d
pub record Before (b : ℕ → ℕ) (l m d k : ℕ) (s : ℕ → ℕ) : Type 0 where
  pub length_b : ℕ
  pub failed_at : ℕ
  pub failed : Failed b length_b s failed_at d
  pub gap : k ≡ failed_at + m
  pub positive : 0 < m
  pub both : l + length_b ≡ failed_at + 1

-- the length has not grown yet
pub record Fresh (b : ℕ → ℕ) (l m k : ℕ) : Type 0 where
  pub none : l ≡ 0
  pub gap : m ≡ k + 1
  pub single : (i : ℕ) → 1 ≤ i → b i ≡ 0

-- c is a recurrence of length l for the first k terms of s, and no word that explains the first
-- `count` terms has fewer symbols that are not 0
pub record IsState (count : ℕ) (s c b : ℕ → ℕ) (l m d k : ℕ) : Type 0 where
  pub generates : Generates c l s k
  pub elements : (i : ℕ) → c i < 256
  pub elements_b : (i : ℕ) → b i < 256
  pub scale : d ≢ 0
  pub few : 2 * l ≤ count
  pub known : l ≤ k
  pub least : (e n : ℕ) → n ≤ longest_word → (w : List ℕ) → Explains e count n s w → l ≤ weight w
  pub prior : Fresh b l m k ⊎ Before b l m d k s

-- no word of at most 255 symbols explains the first `count` terms of s
abbrev pub Unexplained : ℕ → (ℕ → ℕ) → Type 0
Unexplained count s = (e n : ℕ) → n ≤ longest_word → (w : List ℕ) → Explains e count n s w → ⊥

-- the recurrence is over: it holds for all terms, and no word that explains them has fewer symbols
-- that are not 0 than its length
pub record IsShortest (count : ℕ) (s c : ℕ → ℕ) (l : ℕ) : Type 0 where
  pub generates : Generates c l s count
  pub elements : (i : ℕ) → c i < 256
  pub few : 2 * l ≤ count
  pub least : (e n : ℕ) → n ≤ longest_word → (w : List ℕ) → Explains e count n s w → l ≤ weight w
