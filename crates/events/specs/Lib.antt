pub mod Refusals
pub mod Records
pub mod EventRecords
pub mod Code
