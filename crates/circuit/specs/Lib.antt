pub mod Circuit
pub mod Values
pub mod Table
pub mod Read
pub mod Law
