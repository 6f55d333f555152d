pub mod Grounds
pub mod Granted
pub mod Replies
pub mod Looks
pub mod Writes
