pub mod Admins
pub mod Endings
pub mod Talk
