pub mod Pairs
pub mod Renamings
pub mod Same
