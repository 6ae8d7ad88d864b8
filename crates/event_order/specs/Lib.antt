-- Two events in either order.
pub mod EventOrder
pub mod OneReference
