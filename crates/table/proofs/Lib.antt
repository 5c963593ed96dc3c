pub mod Below
pub mod Range
pub mod Targets
pub mod Counted
pub mod OneState
