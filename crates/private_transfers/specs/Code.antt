-- Definitions that describe the code, for its proofs.
pub mod Readers
