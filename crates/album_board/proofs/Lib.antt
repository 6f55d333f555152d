pub mod PrefixLemmas
pub mod EntryLemmas
pub mod StepLemmas
pub mod BoardLemmas
