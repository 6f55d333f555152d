pub mod ItemIds
pub mod ItemBack
pub mod Texts
pub mod Values
pub mod FirstStamps
pub mod Openings
pub mod Places
pub mod Transactions
