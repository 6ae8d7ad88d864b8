-- Definitions that describe the code, for its proofs: no rule of document 01 stands here.
pub mod RecordValues
pub mod Pieces
