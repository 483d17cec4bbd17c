use Rattle.std.proofs.Common.{◌≡◌, ◌∙◌, ◌+◌, ◌∷◌, ◌++◌, [], List, ap, sym, arith, map, take, subst, refl, ℕ}
use Rattle.std.specs.List.{range_with_len}
use Rattle.std.proofs.lemmas.List.{map-append}
use Rattle.std.proofs.lemmas.List.FromFn.{map-range_with_len_more}
use Rattle.std.proofs.lemmas.Grind.{take-set_at}
use Rattle.tm_gf256.specs.Poly.{numbers}
use Rattle.tm_workers.specs.declared.words.Word.{Word}
use Rattle.tm_channel.proofs.ColumnsRead.{all-read, column_elements, first_symbols}
use Rattle.tm_channel.proofs.column_words.read_columns.Goals as goal

pub loop-i-preserved : goal.loop-i-preserved
loop-i-preserved c =
    let i = c.loop-i.i in
    let size = c.word_length-size.result in
    let word = c.read_column.new.word in
    let f : ℕ → List ℕ = column_elements c.basis_of-basis.result c.depth-depth.result c.args.codeblock.now in
    let grows = take-set_at c.loop-i.words i (i + 1) word refl
    (omega (arith, c.loop-i.auto.words, c.requires.words, c.depth-depth.ensures.value, c.loop-i-test.true)) in
    ap (first_symbols size) grows ∙ map-append (λ (w : Word). numbers (take size w.symbols)) (take i c.loop-i.words)
    (word ∷ [])
    ∙ (λ k. c.loop-i.invariant k ++ c.read_column.ensures k ∷ [])
    ∙ sym (map-range_with_len_more f 0 i i (omega arith))

pub returns-clause-columns : goal.returns-clause-columns
returns-clause-columns c =
    let f : ℕ → List ℕ = column_elements c.basis_of-basis.result c.depth-depth.result c.args.codeblock.now in
    let size = c.word_length-size.result in
    let end : c.loop-i.i ≡ c.depth-depth.result = omega (arith, c.loop-i-test.false, c.loop-i.auto.i-end) in
    all-read c.args.config.now c.args.codeblock.now c.loop-i.words c.basis_of-basis.result c.depth-depth.result size
    c.requires.coded c.depth-depth.ensures.value c.word_length-size.ensures.value c.basis_of-basis.ensures
    (c.loop-i.auto.words ∙ c.requires.words ∙ sym c.depth-depth.ensures.value)
    (subst (λ (n : ℕ). first_symbols size (take n c.loop-i.words) ≡ map f (range_with_len 0 n)) end c.loop-i.invariant)
