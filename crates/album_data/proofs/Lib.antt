pub mod KeptLemmas
pub mod LineLemmas
pub mod LogLemmas
pub mod RecoveryLemmas
