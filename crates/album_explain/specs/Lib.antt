pub mod Names
pub mod Decisions
pub mod Bytes
pub mod Explanations
pub mod Explain
pub mod Judging
