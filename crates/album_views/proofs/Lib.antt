pub mod Sets
pub mod Growing
pub mod Turns
pub mod Flaws
pub mod Closing
pub mod Covered
pub mod Ways
mod Stepping
