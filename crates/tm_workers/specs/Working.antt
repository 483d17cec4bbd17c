-- What workers do that draw numbers, what a call makes of a word, and what the slots of results keep.
use Rattle.std.specs.Prelude.{◌≡◌, ℕ, ◌<◌, List, slice_index_or}
use denote.Param.Members.{Shared}
use denote.Ref.{MutBor}
use Rattle.boxcar.specs.Table.{first}
use Rattle.tm_workers.specs.declared.results.Decoded.{Decoded}

-- a function may be called at each number below n
pub record IsCallableBelow (pre : ℕ → Type 0) (n : ℕ) : Type 0 where
  pub call : (i : ℕ) → i < n → pre i

-- a call of f at a `&mut` to w may leave w' there
unfoldable pub Leaves : {F W : Type 0}
    → Shared F (MutBor W × Unit {0}) (Unit {0} × (MutBor W × Unit {0})) → F → W → W → Type 0
Leaves {F} {W} g f w w' = (p : MutBor W) × (q : MutBor W) × (p.now ≡ w)
    × g.post f (p, tt) (tt, (q, tt)) × (q.now ≡ w')

-- what is kept is what a word may become
abbrev pub Keeps : {W : Type 0} → (W → Type 0) → (Decoded W → Type 0) → Type 0
Keeps {W} becomes holds = (d : Decoded W) → (becomes d.word → holds d) × (holds d → becomes d.word)

-- what is kept under each tag is what the word of its number may become
abbrev pub KeepsEach : {W : Type 0} → (W → W → Type 0) → List W
    → (List ℕ → Decoded W → Type 0) → Type 0
KeepsEach {W} becomes words holds = (tag : List ℕ) (d : Decoded W)
    → (becomes (slice_index_or words (first tag) d.word) d.word → holds tag d)
    × (holds tag d → becomes (slice_index_or words (first tag) d.word) d.word)
