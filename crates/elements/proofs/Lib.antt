-- Laws of elements, for the proofs of this crate and of those above it.
pub mod ElementLaws
pub mod ValueLaws
