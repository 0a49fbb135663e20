pub mod Totals
pub mod Keeping
pub mod Moves
