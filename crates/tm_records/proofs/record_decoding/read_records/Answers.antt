use Rattle.std.proofs.Common.{◌*◌, ap, arith}
use Rattle.tm_records.proofs.ReadRecords.{record-read, read-by_number, read-more}
use Rattle.tm_records.proofs.record_decoding.read_records.Goals as goal

pub loop-index-preserved : goal.loop-index-preserved
loop-index-preserved c =
    let coding = c.args.coding.now in
    read-more coding c.args.octets.now c.loop-index.words c.loop-index.index c.read_record.new.word
    (omega (arith, c.loop-index.auto.words)) c.loop-index.invariant
    (record-read coding c.loop-index.index (2 * c.n.result) c.args.octets.now c.read_record.new.word
    (ap (λ n. 2 * n) c.n.ensures.value) c.read_record.ensures.symbols c.read_record.ensures.erased)

pub returns-clause-read : goal.returns-clause-read
returns-clause-read c =
    read-by_number c.args.coding.now c.args.octets.now c.loop-index.words
    (λ j w below. c.loop-index.invariant j w
    (omega (arith, below, c.loop-index.auto.words, c.loop-index-test.false)))
