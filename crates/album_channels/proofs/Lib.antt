pub mod ChannelLemmas
pub mod CountLemmas
pub mod RepeatLemmas
pub mod SightingLemmas
