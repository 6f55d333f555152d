pub mod Addresses
pub mod Audits
pub mod Silent
