-- Laws of event records, of logs and of the numbers of refusals, for the proofs of this crate and of those above it.
pub mod RecordLaws
pub mod LogRecords
pub mod RefusalNumbers
