-- Elements, and what they are read as.
pub mod Elements
pub mod Values
pub mod Code
