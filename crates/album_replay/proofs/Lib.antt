pub mod Replaying
pub mod OnLiterals
pub mod Leaving
pub mod OutputTexts
pub mod Happening
pub mod Standing
pub mod ReplayTurns
pub mod Promising
