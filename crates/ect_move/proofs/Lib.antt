-- What the program needs to know of moving.
pub mod Bounds
