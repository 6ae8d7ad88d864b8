-- Laws of lists, numbers and LinkIds, for the proofs of this crate and of those above it.
pub mod Laws
pub mod Lent
pub mod Lists
pub mod Loops
pub mod Places
pub mod SameInteger
pub mod Library
