-- Transfers made inside a private exchange.
pub mod EctInform
pub mod Code
