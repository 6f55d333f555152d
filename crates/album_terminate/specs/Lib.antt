pub mod Asking
pub mod Deciding
