pub mod Orders
pub mod Players
pub mod Prints
pub mod Scripts
pub mod Statuses
