-- Laws of the lines' text, for the proofs of this crate.
pub mod TextLaws
