use Rattle.std.proofs.Common.{◌≡◌, map, take}
use Rattle.std.specs.List.{range_with_len}
use Rattle.tm_channel.proofs.ColumnsRead.{column_elements, first_symbols}
use Rattle.tm_channel.proofs.column_words.read_columns.Given as goal

abbrev pub invariant-loop-i : goal.invariant-loop-i
invariant-loop-i l =
    first_symbols l.size (take l.i l.words) ≡ map (column_elements l.basis l.depth l.codeblock) (range_with_len 0 l.i)
