-- Laws of what rows are compared by, and of the number of an empty row.
pub mod KeyLaws
pub mod ZeroNumber
