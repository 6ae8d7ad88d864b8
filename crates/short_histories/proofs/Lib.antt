-- That the list has just the sequences in which none is refused, each once and in order, and that the walk finds the one
-- at a place.
pub mod Lists
pub mod Sequences
pub mod Finding
pub mod Walking
pub mod Computed
pub mod HistoryCalls
