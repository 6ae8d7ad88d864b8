-- Definitions that describe code, for its proofs.
pub mod Redrawing
