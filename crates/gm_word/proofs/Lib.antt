pub mod Totals
pub mod LineSteps
pub mod Keeping
pub mod Moves
pub mod Sitting
pub mod Settling
pub mod FreshPens
