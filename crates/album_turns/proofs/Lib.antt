pub mod LeftLemmas
