-- Definitions that describe code, for its proofs.
pub mod Finding
pub mod Walking
