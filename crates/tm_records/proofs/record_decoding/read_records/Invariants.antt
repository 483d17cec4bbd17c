use Rattle.std.proofs.Common.{ℕ, ◌<◌, ◌*◌, drop, get_or}
use Rattle.tm_records.specs.Batch.{IsRead}
use Rattle.tm_records.specs.Records.{record_size}
use Rattle.tm_workers.specs.declared.words.ErasedWord.{ErasedWord}
use Rattle.tm_records.proofs.record_decoding.read_records.Given as goal

abbrev pub invariant-loop-index : goal.invariant-loop-index
invariant-loop-index l =
    (j : ℕ) (w : ErasedWord) → j < l.index
    → IsRead l.coding (drop (j * record_size l.coding) l.octets) (get_or l.words j w)
