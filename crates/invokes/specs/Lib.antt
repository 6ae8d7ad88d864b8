-- What the writer of invokes gives, and what is claimed of writing and reading.
pub mod Invokes
pub mod Contract
pub mod RoundTrip
