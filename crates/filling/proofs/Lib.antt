-- Laws of putting octets into a buffer, for the crates that write.
pub mod Putting
