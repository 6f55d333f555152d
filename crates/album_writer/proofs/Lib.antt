pub mod Placing
pub mod Giving
pub mod Readiness
pub mod Strays
pub mod Lasts
pub mod Viewing
pub mod Basing
