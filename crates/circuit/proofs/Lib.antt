pub mod Gates
pub mod Faithful
pub mod Codec
pub mod Inverse
pub mod OneState
pub mod Told
pub mod Questions
