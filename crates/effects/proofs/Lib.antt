-- Laws for the proofs of this crate.
pub mod EffectLaws
pub mod NumberLaws
