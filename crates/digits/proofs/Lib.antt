-- Laws of digits, for the proofs of this crate and of those above it.
pub mod DigitLaws
