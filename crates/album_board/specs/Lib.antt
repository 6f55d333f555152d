pub mod Entries
pub mod Rule
pub mod Writer
pub mod Board
