pub mod Logs
mod Moves
mod Entering
