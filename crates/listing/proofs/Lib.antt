pub mod Dealing
pub mod Order
mod Turns
mod Near
pub mod Codec
pub mod Passed
pub mod Inverse
pub mod Faithful
pub mod Places
pub mod Questions
