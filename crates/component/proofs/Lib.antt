-- Laws of components, for the proofs of this crate and of those above it.
pub mod Promises
pub mod ReadingLaws
pub mod WriterLaws
pub mod Length
pub mod Tags
mod Examples
