-- What the rules say of the board: its contents, when it is sound, what is found in it, and what events make of it.
pub mod States
pub mod Entries
pub mod Subscription
pub mod RuleSets
pub mod Soundness
pub mod Lookup
pub mod Counts
pub mod Making
pub mod Changes
pub mod LinkIds
pub mod Code
