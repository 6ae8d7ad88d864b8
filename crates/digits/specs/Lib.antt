-- What digits are.
pub mod Digits
