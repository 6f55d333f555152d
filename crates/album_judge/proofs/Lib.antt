pub mod Parts
pub mod Answering
pub mod Texts
pub mod Exchanging
pub mod Pieces
pub mod Turns
pub mod Judging
