pub mod GroundLemmas
pub mod GoingOnLemmas
pub mod RoundLemmas
pub mod TrimLemmas
pub mod EndLemmas
pub mod LookLemmas
pub mod WriteLemmas
pub mod GrantedLemmas
