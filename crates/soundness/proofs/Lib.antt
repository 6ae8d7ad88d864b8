-- Laws of columns, for the proofs of this crate, and what the count promises.
pub mod ColumnLaws
pub mod ColumnSoundness
pub mod Promises
