-- Subaddresses that joined parties send each other.
pub mod SubaddressTransfer
