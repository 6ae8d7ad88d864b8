-- Laws of EctInform invokes, for the proofs of this crate and of those above it.
pub mod Promises
pub mod NumberLength
mod Examples
