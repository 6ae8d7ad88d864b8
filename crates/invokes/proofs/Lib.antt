-- Laws of writing invokes, and the round trips.
pub mod Examples
pub mod ReadInvokes
pub mod RoundTrip
pub mod WritingLaws
