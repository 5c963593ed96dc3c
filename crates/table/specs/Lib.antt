pub mod Meaning
pub mod Faithful
pub mod Same
pub mod Moves
pub mod Counted
pub mod OneState
