pub mod Gathering
pub mod GroupsFoundLemmas
pub mod Judging
pub mod Looking
pub mod Titling
pub mod Baring
