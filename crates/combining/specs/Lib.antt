pub mod Pair
pub mod Renaming
pub mod Agree
pub mod Crossing
