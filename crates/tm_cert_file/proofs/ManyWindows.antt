-- The windows of blocks, one after the other, and their certificate.
use Rattle.std.proofs.Common.{◌≡◌, ℕ, ◌+◌, ◌-◌, ◌≤◌, ◌∙◌, refl, sym, ap, subst, arith, List, [], ◌∷◌, ◌++◌, Bool, Option, Some, take, drop, length, length-drop}
use Rattle.std.proofs.lemmas.List.{ext_get_or, take-append-le, drop-append-le, length-take-le}
use Rattle.tm_conv.specs.declared.rates.Rate.{Rate}
use Rattle.tm_conv.specs.Path.{steps_size}
use Rattle.tm_conv.specs.Columns.{IsColumn}
use Rattle.tm_viterbi.specs.Settings.{Settings}
use Rattle.tm_viterbi.specs.WindowBlock.{WindowBlock}
use Rattle.tm_viterbi.specs.Blocks.{IsBlock, AreBlocks, AreBlocksOf}
use Rattle.tm_viterbi.specs.Due.{Place, Closed, after_block, first_place}
use Rattle.tm_cert_file.specs.Window.{window_octets}
use Rattle.tm_cert_file.specs.Certificate.{window_for, IsCertified, AreCertified, IsCertificate}
use Rattle.tm_cert_file.proofs.ColumnLists.{HasColumn}
use Rattle.tm_cert_file.proofs.WindowTexts.{certified-some}
use Rattle.tm_conv.proofs.Sizes.{steps_size-le}
use Rattle.tm_cert_file.proofs.Spans.{steps_size-rest}
use Rattle.tm_cert_file.proofs.WindowPasses.{are_few}

-- octets have one column
abbrev pub OneColumn : Type 0
OneColumn = (starts : ℕ → Bool) (rate : Rate) (invert : Bool) (t : ℕ) (octets column other : List ℕ)
    → IsColumn starts rate invert t octets column → IsColumn starts rate invert t octets other → column ≡ other

-- ---- where the octets of the windows are there

-- the octets of the block's window are there, and no more steps are kept than it has
pub record IsThere (rate : Rate) (at : Place) (block : WindowBlock) : Type 0 where
  pub octets : steps_size rate at.t block.steps ≤ length at.octets
  pub kept : block.kept ≤ block.steps

abbrev pub AreThere : Rate → Place → List WindowBlock → Type 0
AreThere rate at [] = Unit {0}
AreThere rate at (block ∷ blocks) = IsThere rate at block × AreThere rate (after_block rate at block) blocks

there-block : (rate : Rate) (invert : Bool) (keep ahead n : ℕ) (at : Place) (block : WindowBlock)
    → steps_size rate at.t n ≤ length at.octets
    → IsBlock rate invert keep ahead at.starts at.t n at.octets block → IsThere rate at block
there-block rate invert keep ahead n at block whole is =
    let few = are_few keep ahead n block.steps block.kept is.steps is.kept in
    record { octets = omega (arith, whole, steps_size-le rate at.t block.steps n few.left); kept = few.within }

pub there-closed : (rate : Rate) (invert : Bool) (keep ahead : ℕ) (from to : Place) (blocks : List WindowBlock)
    → Closed rate invert keep ahead from blocks to → AreThere rate from blocks
there-closed rate invert keep ahead from to [] closed = tt
there-closed rate invert keep ahead from to (block ∷ blocks) closed = (
  there-block rate invert keep ahead (keep + ahead + 1) from block closed.0.room closed.0.is_block,
  there-closed rate invert keep ahead (after_block rate from block) to blocks closed.1,
)

there-all : (rate : Rate) (invert : Bool) (keep ahead n : ℕ) (at : Place) (blocks : List WindowBlock)
    → steps_size rate at.t n ≤ length at.octets
    → AreBlocks rate invert keep ahead at.starts at.t n at.octets blocks → AreThere rate at blocks
there-all rate invert keep ahead n at [] whole are = tt
there-all rate invert keep ahead n at (block ∷ blocks) whole are =
    let few = are_few keep ahead n block.steps block.kept are.1.steps are.1.kept in (
      there-block rate invert keep ahead n at block whole are.1,
      there-all rate invert keep ahead (n - block.kept) (after_block rate at block) blocks
          (omega (
            arith,
            whole,
            steps_size-rest rate at.t block.kept n (omega (arith, few.within, few.left)),
            length-drop (steps_size rate at.t block.kept) at.octets,
          )) are.2,
    )

-- ---- their certificate

pub certified-exists : HasColumn → (rate : Rate) (invert : Bool) (at : Place) (blocks : List WindowBlock)
    → AreThere rate at blocks
    → (text : List ℕ) × AreCertified rate invert at.starts at.t at.octets blocks text
certified-exists exists rate invert at [] there = ([], refl)
certified-exists exists rate invert at (block ∷ blocks) there =
    let size : ℕ = steps_size rate at.t block.steps in
    let first = certified-some exists rate invert at.starts at.t (take size at.octets) block
    (omega (arith, length-take-le size at.octets there.0.octets)) in
    let rest = certified-exists exists rate invert (after_block rate at block) blocks there.1 in
    (first.0 ++ rest.0, (first.0, rest.0, first.1, rest.1, refl))

pub certificate-exists : HasColumn → (s : Settings) (octets : List ℕ) (blocks : List WindowBlock) (left : ℕ)
    → AreBlocksOf s octets blocks left
    → (text : List ℕ) × IsCertificate s octets blocks text
certificate-exists exists s octets blocks left are =
    certified-exists exists s.rate s.invert (first_place s octets) blocks
    (there-all s.rate s.invert s.keep s.ahead are.count (first_place s octets) blocks are.steps.whole are.are)

window-one : OneColumn → (rate : Rate) (invert : Bool) (starts : Option ℕ) (t : ℕ) (octets : List ℕ)
    (block : WindowBlock) (text other : List ℕ)
    → IsCertified rate invert starts t octets block text → IsCertified rate invert starts t octets block other
    → text ≡ other
window-one one rate invert starts t octets block text other is be =
    let same = ext_get_or [] is.columns be.columns (is.are_columns.count ∙ sym be.are_columns.count) (λ k lt.
    let le : k ≤ block.steps = omega (arith, lt, is.are_columns.count) in
    one _ rate invert t _ _ _ (is.are_columns.each k le) (be.are_columns.each k le)) in
    is.is_text ∙ ap (λ columns. window_octets (window_for block octets columns)) same ∙ sym be.is_text

pub certified-one : OneColumn → (rate : Rate) (invert : Bool) (starts : Option ℕ) (t : ℕ) (octets : List ℕ)
    (blocks : List WindowBlock) (text other : List ℕ)
    → AreCertified rate invert starts t octets blocks text → AreCertified rate invert starts t octets blocks other
    → text ≡ other
certified-one one rate invert starts t octets [] text other are be = are ∙ sym be
certified-one one rate invert starts t octets (block ∷ blocks) text other are be =
    let first : are.0 ≡ be.0 = window-one one rate invert starts t
    (take (steps_size rate t block.steps) octets) block are.0 be.0 are.2 be.2 in
    let rest : are.1 ≡ be.1 =
    certified-one one rate invert (Some block.end_state) (t + block.kept)
    (drop (steps_size rate t block.kept) octets) blocks are.1 be.1 are.3 be.3 in
    are.4 ∙ ap (λ (v : List ℕ). v ++ are.1) first ∙ ap (λ (v : List ℕ). be.0 ++ v) rest ∙ sym be.4

-- whatever octets come
pub certified-longer : (rate : Rate) (invert : Bool) (at : Place) (blocks : List WindowBlock) (more text : List ℕ)
    → AreThere rate at blocks
    → AreCertified rate invert at.starts at.t at.octets blocks text
    → AreCertified rate invert at.starts at.t (at.octets ++ more) blocks text
certified-longer rate invert at [] more text there are = are
certified-longer rate invert at (block ∷ blocks) more text there are =
    let size = steps_size rate at.t block.steps in
    let cut = steps_size rate at.t block.kept in
    let inside : cut ≤ length at.octets =
    omega (arith, there.0.octets, steps_size-le rate at.t block.kept block.steps there.0.kept) in
    let rest = certified-longer rate invert (after_block rate at block) blocks more are.1 there.1 are.3 in (
      are.0,
      are.1,
      subst (λ (v : List ℕ). IsCertified rate invert at.starts at.t v block are.0)
          (sym (take-append-le size at.octets more there.0.octets)) are.2,
      subst (λ (v : List ℕ). AreCertified rate invert (Some block.end_state) (at.t + block.kept) v blocks are.1)
          (sym (drop-append-le cut at.octets more inside)) rest,
      are.4,
    )
