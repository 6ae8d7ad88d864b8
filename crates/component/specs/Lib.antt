-- What components are read as, and the octets of the answers.
pub mod Reading
pub mod Answers
pub mod Arguments
pub mod Code
