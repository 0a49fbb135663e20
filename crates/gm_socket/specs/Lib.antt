pub mod Logs
pub mod Sources
