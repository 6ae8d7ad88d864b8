-- What filling a lent buffer means.
pub mod Code
