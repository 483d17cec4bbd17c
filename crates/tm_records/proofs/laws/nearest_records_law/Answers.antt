use Rattle.tm_records.specs.Records.{record_count, in_batches}
use Rattle.tm_records.proofs.NearestRecords.{has_first, nearest_only, nearest_due_only}
use Rattle.tm_records.proofs.laws.nearest_records_law.Goals as goal

pub returns-clause-exists : goal.returns-clause-exists
returns-clause-exists c coding octets =
    let some = has_first coding (record_count coding octets) octets in (some.0, record { each = some.1; all = some.2 })

pub returns-clause-one : goal.returns-clause-one
returns-clause-one c coding octets a b short h k = nearest_only coding octets a b short h k

pub returns-clause-exists_due : goal.returns-clause-exists_due
returns-clause-exists_due c coding octets =
    let some = has_first coding (in_batches (record_count coding octets)) octets in
    (some.0, record { each = some.1; all = some.2 })

pub returns-clause-one_due : goal.returns-clause-one_due
returns-clause-one_due c coding octets a b short h k = nearest_due_only coding octets a b short h k
