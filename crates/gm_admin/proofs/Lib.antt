pub mod FirstWord
pub mod LineTexts
