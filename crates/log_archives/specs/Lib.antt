-- The archive of a log, by its records, and the log of an archive.
pub mod Code
pub mod Regrouping
pub mod Undoing
pub mod Judging
pub mod Contract
pub mod RegroupCalls
pub mod Examples
