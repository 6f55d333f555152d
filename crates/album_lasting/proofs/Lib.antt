pub mod VersionLemmas
pub mod AgeLemmas
pub mod MadeLemmas
pub mod StayLemmas
pub mod AddLemmas
pub mod SettingLemmas
pub mod CrashLemmas
