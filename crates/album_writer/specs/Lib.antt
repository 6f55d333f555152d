pub mod Writing
pub mod Bases
pub mod WriteReplies
pub mod Rounds
pub mod Given
pub mod Counting
pub mod Ready
pub mod Steps
