use Rattle.std.proofs.Common.{◌∙◌, drop, List, sym, subst}
use Rattle.std.proofs.lemmas.List.{take_at, length-take-le}
use Rattle.tm_records.specs.Batch.{all_nearest}
use Rattle.tm_records.specs.Records.{AreFirstNearest}
use Rattle.tm_workers.specs.declared.words.ErasedWord.{ErasedWord}
use Rattle.tm_records.proofs.ReadRecords.{nearest-are}
use Rattle.tm_records.proofs.record_decoding.decode_records.Goals as goal

pub returns-clause-nearest : goal.returns-clause-nearest
returns-clause-nearest g c =
    let coding = c.args.coding.now in
    let octets = c.args.octets.now in
    let now = c.decode_erased_batch.new.words in
    let prefix = take_at now (drop c.args.count c.args.words.now) c.args.count
    (c.decode_erased_batch.auto.words ∙ c.read_records.ensures.length
    ∙ length-take-le c.args.count c.args.words.now c.requires.count) in
    subst (λ (words : List ErasedWord). AreFirstNearest coding octets (all_nearest coding words)) (sym prefix)
    (nearest-are coding octets c.read_records.new.words now c.read_records.ensures.read c.decode_erased_batch.ensures)
