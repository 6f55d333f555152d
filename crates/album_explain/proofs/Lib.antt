pub mod Adding
pub mod Floats
pub mod Joining
pub mod Questions
pub mod Rows
