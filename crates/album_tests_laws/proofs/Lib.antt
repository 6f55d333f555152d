pub mod AsAsked
pub mod Denials
pub mod Judged
pub mod NeedsMet
pub mod Rooms
pub mod Passing
pub mod Generations
pub mod LowNumbers
