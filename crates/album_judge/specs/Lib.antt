pub mod Judge
pub mod Writes
