pub mod Order
pub mod Near
