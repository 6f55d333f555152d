pub mod Talking
pub mod TalkTurns
pub mod Recording
pub mod Naming
pub mod Dumping
