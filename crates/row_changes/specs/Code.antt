-- Definitions that describe the code, for its proofs: no rule of document 01 stands here.
pub mod Calls
pub mod Concerns
