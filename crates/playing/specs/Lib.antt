-- What a log leads to, and what playing a piece of it does.
pub mod Log
pub mod Playing
