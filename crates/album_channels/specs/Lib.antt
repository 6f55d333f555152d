pub mod Channels
pub mod Rounds
pub mod Reads
pub mod Sightings
pub mod Sending
