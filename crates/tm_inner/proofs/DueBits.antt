-- The bits that are due stand first, whatever octets come.
use Rattle.std.proofs.Common.{◌≡◌, ℕ, zero, suc, ◌-◌, ◌==◌, Bool, List, [], ◌∷◌, ◌++◌, length, take, drop, map, refl, sym, ap, ◌∙◌, subst, arith, append_assoc, Option, Some, None}
use Rattle.std.proofs.lemmas.List.{map-append}
use Rattle.tm_config.specs.Configuration.{Configuration}
use Rattle.tm_conv.specs.declared.rates.Rate.{Rate}
use Rattle.tm_viterbi.specs.WindowBlock.{WindowBlock}
use Rattle.tm_viterbi.specs.Clean.{kept_bits}
use Rattle.tm_windows.specs.Windows.{Windows, AreBlocksIn, AreFirstIn}
use Rattle.tm_inner.specs.Inner.{windows_of, soft_value, soft_octets, BlocksAt, DueAt, plain_bits, bits_at, AreInnerDue, AreInnerBlocks, inner_bits}
use Rattle.tm_inner.proofs.PlainBits.{plain-append}

-- windows that are closed stay so
abbrev pub StayClosed : Type 0
StayClosed =
    (w : Windows) (octets more : List ℕ) (first : List WindowBlock) → AreFirstIn w octets first
    → AreFirstIn w (octets ++ more) first

-- their blocks are the first of all
abbrev pub StandFirst : Type 0
StandFirst = (w : Windows) (octets : List ℕ) (first blocks : List WindowBlock) (left : ℕ)
    → AreFirstIn w octets first → AreBlocksIn w octets blocks left → (rest : List WindowBlock)
    × (blocks ≡ first ++ rest)

pub drop-split : {A : Type 0} (n : ℕ) (xs ys : List A) → drop n (xs ++ ys) ≡ drop n xs ++ drop (n - length xs) ys
drop-split zero xs ys = (let same : 0 ≡ 0 - length xs = omega arith in ap (λ k. xs ++ drop k ys) same)
drop-split (suc n) [] ys = (let same : suc n ≡ suc n - 0 = omega arith in ap (λ k. drop k ys) same)
drop-split (suc n) (x ∷ xs) ys =
    drop-split n xs ys ∙ (let same : n - length xs ≡ suc n - length (x ∷ xs) = omega arith in
    ap (λ k. drop n xs ++ drop k ys) same)

-- the soft octets that are decoded of a longer list
pub soft-more : (c : Configuration) (phase : ℕ) (octets more : List ℕ)
    → soft_octets c phase (octets ++ more) ≡ soft_octets c phase octets
    ++ map (soft_value c) (drop (phase - length (drop c.skip octets)) (drop (c.skip - length octets) more))
soft-more c phase octets more =
    let back = drop (c.skip - length octets) more in
    ap (λ l. map (soft_value c) (drop phase l)) (drop-split c.skip octets more)
    ∙ ap (map (soft_value c)) (drop-split phase (drop c.skip octets) back)
    ∙ map-append (soft_value c) (drop phase (drop c.skip octets)) (drop (phase - length (drop c.skip octets)) back)

pub kept-append : (first rest : List WindowBlock) → kept_bits (first ++ rest) ≡ kept_bits first ++ kept_bits rest
kept-append [] rest = refl
kept-append (b ∷ first) rest =
    ap (λ l. take b.kept b.bits ++ l) (kept-append first rest)
    ∙ sym (append_assoc (take b.kept b.bits) (kept_bits first) (kept_bits rest))

-- the blocks that are due are the first of all, whatever octets come
pub blocks-first : StayClosed → StandFirst → (rate : Option Rate) (c : Configuration) (phase : ℕ)
    (octets more : List ℕ) (due blocks : List WindowBlock) (left : ℕ)
    → DueAt rate c phase octets due → BlocksAt rate c phase (octets ++ more) blocks left
    → (rest : List WindowBlock) × (blocks ≡ due ++ rest)
blocks-first stay first None c phase octets more due blocks left is all =
    ([], all.0 ∙ ap (λ (l : List WindowBlock). l ++ []) (sym is))
blocks-first stay first (Some rate) c phase octets more due blocks left is all =
    let w = windows_of c rate in
    let soft = soft_octets c phase octets in
    let back = map (soft_value c) (drop (phase - length (drop c.skip octets)) (drop (c.skip - length octets) more)) in
    first w (soft ++ back) due blocks left (stay w soft back due (is.to, is.closed))
    (subst (λ (l : List ℕ). AreBlocksIn w l blocks left) (soft-more c phase octets more) all)

due-first : StayClosed → StandFirst → (rate : Option Rate) (c : Configuration) (phase : ℕ) (octets more : List ℕ)
    (due blocks : List WindowBlock) (left : ℕ)
    → DueAt rate c phase octets due → BlocksAt rate c phase (octets ++ more) blocks left
    → (rest : List Bool) × (bits_at rate c (octets ++ more) blocks ≡ bits_at rate c octets due ++ rest)
due-first stay first None c phase octets more due blocks left is all = (
  drop (c.skip - length (plain_bits c octets)) (plain_bits c more),
  ap (drop c.skip) (plain-append c octets more)
      ∙ drop-split c.skip (plain_bits c octets) (plain_bits c more),
)
due-first stay first (Some rate) c phase octets more due blocks left is all =
    let split = blocks-first stay first (Some rate) c phase octets more due blocks left is all in
    let is_one : ℕ → Bool = λ bit. bit == 1 in (
      map is_one (kept_bits split.0),
      ap (λ l. map is_one (kept_bits l)) split.1
          ∙ ap (map is_one) (kept-append due split.0) ∙ map-append is_one (kept_bits due) (kept_bits split.0),
    )

pub bits-first : StayClosed → StandFirst → (c : Configuration) (phase : ℕ) (octets more : List ℕ)
    (due blocks : List WindowBlock) (left : ℕ)
    → AreInnerDue c phase octets due → AreInnerBlocks c phase (octets ++ more) blocks left
    → (rest : List Bool) × (inner_bits c (octets ++ more) blocks ≡ inner_bits c octets due ++ rest)
bits-first stay first c = due-first stay first c.inner c
