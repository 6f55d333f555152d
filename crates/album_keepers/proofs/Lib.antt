pub mod SettleLemmas
pub mod EnvelopeLemmas
pub mod ReplyLemmas
pub mod KeeperLemmas
pub mod SweepLemmas
pub mod StartLemmas
pub mod HeldLemmas
pub mod RoundLemmas
