-- The lines of a trace.
use Rattle.std.proofs.Common.{◌≡◌, ℕ, ◌+◌, ◌-◌, ◌<◌, ◌^◌, List, [], ◌∷◌, ◌++◌, length, refl, sym, ◌∙◌, ap, subst, arith, append_assoc}
use Rattle.tm_base.specs.Handed.{Handed, Phase, Item, items_of}
use Rattle.tm_base.specs.Takers.{HandedOver}
use Rattle.tm_viterbi.specs.WindowBlock.{WindowBlock}
use Rattle.tm_driver.specs.Lines.{phase_text}
use Rattle.tm_driver.specs.Writing.{Text, Out, AreOut, notes_of}
use Rattle.tm_windows.specs.Windows.{kept_of}
use Rattle.tm_path_commands.specs.declared.tally.Tally.{Tally}
use Rattle.tm_path_commands.specs.declared.trace_command.WindowLines.{WindowLines}
use Rattle.tm_path_commands.specs.Lines.{block_text, no_blocks, tally_after, trace_end_text}
use Rattle.tm_path_commands.specs.Trace.{blocks_text, tally_all, trace_text}
use Rattle.tm_path_commands.proofs.FewHanded.{AreFew}
use Rattle.tm_path_commands.specs.Tracing.{counted_after, counted_by, lines_by, traced}

-- ---- what is given

pub lines-given : {T : Type 0} (took : T → Text → T → Type 0) (handed : List (Handed WindowBlock)) (a b : WindowLines T)
    → HandedOver (traced took) a handed b → (b.texts.ghost_name ≡ a.texts.ghost_name)
    × HandedOver took a.texts.now (lines_by a.tally handed) b.texts.now × (b.tally ≡ counted_by a.tally handed)
lines-given took [] a b over = (
  ap (λ t. t.texts.ghost_name) (sym over),
  ap (λ t. t.texts.now) over,
  ap (λ t. t.tally) (sym over),
)
lines-given took (Phase skip cost ∷ handed) a b over =
    let m = over.0 in
    let rest = lines-given took handed m b over.2 in
    let same : m.tally ≡ a.tally = over.1.2 in (
      rest.0 ∙ over.1.0,
      (
        m.texts.now,
        over.1.1,
        subst (λ (t : Tally). HandedOver took m.texts.now (lines_by t handed) b.texts.now) same
            rest.1,
      ),
      subst (λ (t : Tally). b.tally ≡ counted_by t handed) same rest.2,
    )
lines-given took (Item block ∷ handed) a b over =
    let m = over.0 in
    let rest = lines-given took handed m b over.2 in
    let same : m.tally ≡ counted_after a.tally block = over.1.2 in (
      rest.0 ∙ over.1.0,
      (
        m.texts.now,
        over.1.1,
        subst (λ (t : Tally). HandedOver took m.texts.now (lines_by t handed) b.texts.now) same
            rest.1,
      ),
      subst (λ (t : Tally). b.tally ≡ counted_by t handed) same rest.2,
    )

-- ---- lists

pub lines_by-append : (was : Tally) (xs ys : List (Handed WindowBlock))
    → lines_by was (xs ++ ys) ≡ lines_by was xs ++ lines_by (counted_by was xs) ys
lines_by-append was [] ys = refl
lines_by-append was (Phase skip cost ∷ xs) ys =
    ap (λ l. Out (phase_text skip cost) ∷ l) (lines_by-append was xs ys)
lines_by-append was (Item x ∷ xs) ys =
    ap (λ l. Out (block_text was x) ∷ l) (lines_by-append (counted_after was x) xs ys)

pub counted_by-append : (was : Tally) (xs ys : List (Handed WindowBlock))
    → counted_by was (xs ++ ys) ≡ counted_by (counted_by was xs) ys
counted_by-append was [] ys = refl
counted_by-append was (Phase skip cost ∷ xs) ys = counted_by-append was xs ys
counted_by-append was (Item x ∷ xs) ys = counted_by-append (counted_after was x) xs ys

blocks_text-split_at : (was : Tally) (xs ys : List (Handed WindowBlock))
    → blocks_text was (xs ++ ys) ≡ blocks_text was xs ++ blocks_text (tally_all was xs) ys
blocks_text-split_at was [] ys = refl
blocks_text-split_at was (Phase skip cost ∷ xs) ys =
    ap (λ l. phase_text skip cost ++ l) (blocks_text-split_at was xs ys)
    ∙ sym (append_assoc (phase_text skip cost) (blocks_text was xs) (blocks_text (tally_all was xs) ys))
blocks_text-split_at was (Item x ∷ xs) ys =
    let next = tally_after was x in
    ap (λ l. block_text was x ++ l) (blocks_text-split_at next xs ys)
    ∙ sym (append_assoc (block_text was x) (blocks_text next xs) (blocks_text (tally_all next xs) ys))

-- the rest of a trace after its first lines
pub trace-rest : (first rest : List (Handed WindowBlock)) (bits left : ℕ)
    → (more : List ℕ) × (trace_text (first ++ rest) bits left ≡ blocks_text no_blocks first ++ more)
trace-rest first rest bits left =
    let after = blocks_text (tally_all no_blocks first) rest in
    let end = trace_end_text (length (items_of (first ++ rest))) bits left in (
      after ++ end,
      ap (λ l. l ++ end) (blocks_text-split_at no_blocks first rest)
          ∙ append_assoc (blocks_text no_blocks first) after end,
    )

-- ---- windows and bits that are counted

-- both counts are less than a number that is not said
abbrev pub IsSmall : Tally → Type 0
IsSmall tally = (tally.blocks < 2 ^ 64 - 1) × (tally.bits < 2 ^ 64 - 1)

tally-is : (was : Tally) (handed : List (Handed WindowBlock))
    → ((tally_all was handed).blocks ≡ was.blocks + length (items_of handed))
    × ((tally_all was handed).bits ≡ was.bits + kept_of (items_of handed))
tally-is was [] = (omega arith, omega arith)
tally-is was (Phase skip cost ∷ handed) = tally-is was handed
tally-is was (Item block ∷ handed) =
    let rest = tally-is (tally_after was block) handed in
    (omega (arith, rest.0), omega (arith, rest.1))

-- of few windows that keep few bits both counts are small
pub few-tally : (octets : List ℕ) (handed : List (Handed WindowBlock)) → length octets < 2 ^ 60
    → AreFew (items_of handed) octets → IsSmall (tally_all no_blocks handed)
few-tally octets handed small few =
    let is = tally-is no_blocks handed in
    (omega (arith, small, few.0, is.0), omega (arith, small, few.1, is.1))

pub blocks-counted : (handed : List (Handed WindowBlock))
    → (tally_all no_blocks handed).blocks ≡ length (items_of handed)
blocks-counted handed = omega (arith, (tally-is no_blocks handed).0)

after-small : (was : Tally) (block : WindowBlock) (handed : List (Handed WindowBlock))
    → IsSmall (tally_all (tally_after was block) handed) → counted_after was block ≡ tally_after was block
after-small was block handed few =
    let all = tally-is (tally_after was block) handed in
    let blocks : (counted_after was block).blocks ≡ was.blocks + 1 = omega (arith, all.0, few.0) in
    let bits : (counted_after was block).bits ≡ was.bits + block.kept = omega (arith, all.1, few.1) in
    λ i. record { blocks = blocks i; bits = bits i }

-- then the lines are those of the trace
pub lines-are : (was : Tally) (handed : List (Handed WindowBlock)) → IsSmall (tally_all was handed)
    → AreOut (lines_by was handed) (blocks_text was handed) × (counted_by was handed ≡ tally_all was handed)
lines-are was [] few = (record { out = refl; notes = refl }, refl)
lines-are was (Phase skip cost ∷ handed) few =
    let rest = lines-are was handed few in
    (record { out = ap (λ l. phase_text skip cost ++ l) rest.0.out; notes = rest.0.notes }, rest.1)
lines-are was (Item block ∷ handed) few =
    let same = after-small was block handed few in
    let rest = lines-are (tally_after was block) handed few in
    subst (λ (t : Tally). AreOut (Out (block_text was block) ∷ lines_by t handed)
    (block_text was block ++ blocks_text (tally_after was block) handed)
    × (counted_by t handed ≡ tally_all (tally_after was block) handed)) (sym same)
    (record { out = ap (λ l. block_text was block ++ l) rest.0.out; notes = rest.0.notes }, rest.1)

-- nothing is for the notes
pub lines-silent : (was : Tally) (handed : List (Handed WindowBlock)) → notes_of (lines_by was handed) ≡ []
lines-silent was [] = refl
lines-silent was (Phase skip cost ∷ handed) = lines-silent was handed
lines-silent was (Item block ∷ handed) = lines-silent (counted_after was block) handed
