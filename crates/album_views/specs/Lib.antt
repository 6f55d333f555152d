pub mod Asks
pub mod Checks
pub mod Seen
pub mod ReadSets
pub mod Covering
pub mod Views
pub mod Steps
