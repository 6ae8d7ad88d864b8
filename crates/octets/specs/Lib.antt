-- What numbers, LinkIds, searches over lists and writing into a buffer mean.
pub mod Lists
pub mod Tests
pub mod Numbers
pub mod Buffers
