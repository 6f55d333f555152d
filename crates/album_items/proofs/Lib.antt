mod ItemTexts
mod Marked
mod Fitting
pub mod PlaceLemmas
pub mod BaseLemmas
