pub mod Worlds
pub mod Next
