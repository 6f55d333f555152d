pub mod Groups
pub mod Matching
pub mod Policies
pub mod Verdict
pub mod Audit
