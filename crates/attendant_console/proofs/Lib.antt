-- Laws of what is shown, of lines while the rows are looked through, and of lines that follow their legs; and
-- `screen_agrees`.
pub mod Shown
pub mod ArrayMap
pub mod Redrawing
pub mod Names
pub mod Playing
pub mod Examples
pub mod Lines
pub mod Following
pub mod ScreenAgrees
