pub mod Explanations
pub mod Tables
pub mod Readings
pub mod Steps
pub mod Openings
pub mod Scripts
