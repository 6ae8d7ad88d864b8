-- Laws of logs moved from one form to the other.
pub mod MovedRecords
pub mod RecordByRecord
pub mod MovedBehind
pub mod SameRequests
pub mod ThereAndBack
pub mod Examples
pub mod Pieces
