pub mod Parts
pub mod Register
pub mod Inner
