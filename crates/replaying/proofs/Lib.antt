-- That a log and its moved form replay alike.
pub mod Replayed
