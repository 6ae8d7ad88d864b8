-- The two forms of a stored log, and moving a log from one to the other.
pub mod Code
pub mod Moving
pub mod Contract
pub mod MoveCalls
pub mod ThereAndBack
pub mod Examples
pub mod Pieces
