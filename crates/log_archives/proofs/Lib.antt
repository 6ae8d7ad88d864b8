-- Laws of regrouping and undoing.
pub mod Counts
pub mod ThereAndBack
pub mod Lists
pub mod Regrouped
pub mod GoodRecords
pub mod RecordByRecord
pub mod Starts
pub mod Columns
pub mod Judged
pub mod Packed
pub mod Tables
pub mod Unpacked
pub mod FieldsAlone
pub mod RegroupCalls
pub mod Examples
