pub mod Totals
pub mod Books
