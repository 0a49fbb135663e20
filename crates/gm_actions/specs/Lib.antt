pub mod Actions
pub mod Carried
pub mod Effects
pub mod Bodies
pub mod Lines
pub mod Refusals
pub mod ReadEvents
