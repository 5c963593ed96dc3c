pub mod Tables
pub mod Task
