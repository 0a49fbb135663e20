mod ReadingLemmas
pub mod Changing
pub mod HandleTexts
pub mod JobsMade
