pub mod SoundLemmas
pub mod ReopenLemmas
pub mod StampLemmas
pub mod NextLemmas
pub mod ClockLemmas
pub mod NumberLemmas
pub mod BaseLemmas
