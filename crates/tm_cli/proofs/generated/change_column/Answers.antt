use Rattle.std.proofs.Common.{◌≡◌, ◌+◌, ◌*◌, ◌%◌, length, ap, ◌∙◌}
use Rattle.tm_config.specs.Configuration.{word_length}
use Rattle.tm_cli.specs.Generated.{draw}
use Rattle.tm_cli.proofs.Generating.{drawn-none, given, stands, column-none, column-more, place-inside}
use Rattle.tm_cli.proofs.generated.change_column.Goals as goal

pub loop-k-init : goal.loop-k-init
loop-k-init c =
    let g = c.args.draws.now in
    let word = c.next_word-first in
    record {
      codeblock = column-none c.args.config.now c.args.column g c.args.codeblock.now;
      draws = stands 0 g g word.new.self word.result (drawn-none g) word.ensures;
    }

pub bounds-codeblock-place : goal.bounds-codeblock-place
bounds-codeblock-place c =
    place-inside c.args.config.now c.args.column c.depth-depth.result c.word_length-size.result
    (c.next_word-first.result + c.loop-k.k) (length c.loop-k.codeblock)
    c.depth-depth.ensures.accepted c.requires.column c.depth-depth.ensures.value c.word_length-size.ensures.value
    (c.loop-k.auto.codeblock ∙ c.requires.size)

pub bounds-codeblock-place-in-loop-k : goal.bounds-codeblock-place-in-loop-k
bounds-codeblock-place-in-loop-k c =
    place-inside c.args.config.now c.args.column c.depth-depth.result c.word_length-size.result
    (c.next_word-first.result + c.loop-k.k) (length c.loop-k.codeblock)
    c.depth-depth.ensures.accepted c.requires.column c.depth-depth.ensures.value c.word_length-size.ensures.value
    (c.loop-k.auto.codeblock ∙ c.requires.size)

pub loop-k-preserved : goal.loop-k-preserved
loop-k-preserved c =
    let g = c.args.draws.now in
    let here = c.loop-k in
    let word = c.next_word in
    let first : c.next_word-first.result ≡ draw g 0 = given 0 g g c.next_word-first.new.self c.next_word-first.result
    (drawn-none g) c.next_word-first.ensures in
    let own : word.result ≡ draw g (here.k + 1) = given (here.k + 1) g here.draws word.new.self word.result
    here.invariant.draws word.ensures in
    record {
      codeblock =
          column-more c.args.config.now c.args.column here.k _
          (1 + word.result % 255) g c.args.codeblock.now here.codeblock here.invariant.codeblock
          (ap (λ d. c.args.column + d * ((c.next_word-first.result + here.k) % c.word_length-size.result))
          c.depth-depth.ensures.value
          ∙ ap (λ n. c.args.column + c.args.config.now.depth * ((c.next_word-first.result + here.k) % n))
          c.word_length-size.ensures.value
          ∙ ap (λ a. c.args.column + c.args.config.now.depth * ((a + here.k) % word_length c.args.config.now)) first)
          (ap (λ n. 1 + n % 255) own);
      draws = stands (here.k + 1) g here.draws word.new.self word.result here.invariant.draws word.ensures;
    }
