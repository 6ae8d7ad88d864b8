-- Definitions that describe code, for its proofs.
pub mod Judging
pub mod Columns
pub mod Tables
pub mod Unpacking
