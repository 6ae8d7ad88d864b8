-- Laws of finding parties and of serving, for the proofs of this crate and of those above it.
pub mod PartyLaws
pub mod PairingLaws
pub mod ServingLaws
