-- Laws of subaddresses, for the proofs of this crate and of those above it.
pub mod Promises
mod Examples
