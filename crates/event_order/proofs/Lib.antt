-- That two events on unrelated calls give the same in either order.
pub mod CallChanges
pub mod StaysSound
pub mod EventOrder
pub mod Calls
pub mod OneReference
