-- The screen of an attendant's console: its lines, pinning, playing, names; and what is claimed of it.
pub mod Code
pub mod Screen
pub mod Contract
pub mod Name
pub mod ScreenAgrees
pub mod Examples
