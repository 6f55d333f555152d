pub mod TextLemmas
pub mod ZeroLemmas
pub mod LogLemmas
pub mod ReadLemmas
pub mod SealLemmas
