-- Laws for the proofs of this crate.
pub mod PlayingLaws
pub mod TurnLaws
pub mod WholeLog
pub mod Bounds
