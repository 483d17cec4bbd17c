-- Where the phase is not followed, windows stand one after another, and nothing is dropped before any.
use Rattle.std.proofs.Common.{◌≡◌, ℕ, Bool, false, List, Some, None, if◌then◌else◌, ap}
use Rattle.tm_config.specs.Configuration.{Configuration}
use Rattle.tm_conv.specs.declared.rates.Rate.{Rate}
use Rattle.tm_viterbi.specs.WindowBlock.{WindowBlock}
use Rattle.tm_viterbi.specs.Blocks.{AreBlocksOf}
use Rattle.tm_viterbi.specs.Due.{AreFirst}
use Rattle.tm_windows.specs.Slip.{steps_seen}
use Rattle.tm_windows.specs.Windows.{AreBlocksIn, AreFirstIn}
use Rattle.tm_windows.proofs.Undisturbed.{unseen-blocks, unseen-first}
use Rattle.tm_inner.specs.Inner.{settings_of, windows_of}

-- no slip is looked for
unseen : (c : Configuration) (rate : Rate) → c.follow ≡ false → (windows_of c rate).seen ≡ None
unseen c rate is = ap (λ (follow : Bool). if follow then Some (steps_seen c.keep c.ahead) else None) is

pub blocks-unfollowed : (c : Configuration) (rate : Rate) (soft : List ℕ) (blocks : List WindowBlock) (left : ℕ)
    → c.follow ≡ false
    → AreBlocksIn (windows_of c rate) soft blocks left → AreBlocksOf (settings_of c rate) soft blocks left
blocks-unfollowed c rate soft blocks left is = unseen-blocks (windows_of c rate) (unseen c rate is) soft blocks left

pub first-unfollowed : (c : Configuration) (rate : Rate) (soft : List ℕ) (blocks : List WindowBlock) → c.follow ≡ false
    → AreFirstIn (windows_of c rate) soft blocks → AreFirst (settings_of c rate) soft blocks
first-unfollowed c rate soft blocks is = unseen-first (windows_of c rate) (unseen c rate is) soft blocks
