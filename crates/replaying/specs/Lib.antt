-- What a log and its moved form lead to.
pub mod Replaying
