-- What the lines of a log's text are, and what writing one into a buffer leaves.
pub mod Lines
pub mod Writing
