pub mod Owning
pub mod Given
pub mod Lives
pub mod Accounted
pub mod Numbering
pub mod Ended
pub mod Limiting
