-- By how many workers windows were decoded, from one call to the next.
use Rattle.std.proofs.Common.{◌≡◌, ◌⊎◌, inl, inr, ℕ, Option, Some, None, refl, ap, ◌∙◌}
use Rattle.tm_windows.specs.Queue.{Queueing}
use Rattle.tm_inner.specs.InnerDecoding.{Shares, Sharing, shared_by, sharing_in}

shared-again : (share : ℕ → ℕ) (sharing : Option Sharing)
    → shared_by share (shared_by share sharing) ≡ shared_by share sharing
shared-again share None = refl
shared-again share (Some sharing) = refl

module _ (share : ℕ → ℕ) (before middle now : Option Queueing) where
  -- nothing was decoded after it
  pub shares-kept : Shares share before middle → sharing_in now ≡ sharing_in middle → Shares share before now
  shares-kept (inl same) is = inl (is ∙ same)
  shares-kept (inr shared) is = inr (is ∙ shared)

  -- or it was, by the same crew
  pub shares-more : Shares share before middle → sharing_in now ≡ shared_by share (sharing_in middle)
      → sharing_in now ≡ shared_by share (sharing_in before)
  shares-more (inl same) is = is ∙ ap (shared_by share) same
  shares-more (inr shared) is = is ∙ ap (shared_by share) shared ∙ shared-again share (sharing_in before)
