pub mod Replay
pub mod Promise
pub mod WorkedOpening
pub mod Epochs
pub mod Stages
