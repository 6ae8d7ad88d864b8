-- What the program needs to know of regrouping.
pub mod Bounds
