-- Sequences of numbered events, and the short ones of six events in which none is refused.
pub mod Code
pub mod Sequences
pub mod Histories
pub mod Lengths
pub mod HistoryCalls
