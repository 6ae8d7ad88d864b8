-- Definitions that describe the code, for its proofs: no rule of document 01 stands here.
pub mod Frames
pub mod Invokes
pub mod Writers
