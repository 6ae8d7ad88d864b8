pub mod Contract
pub mod CallHistory
pub mod AlikeButForExecute
pub mod Code
