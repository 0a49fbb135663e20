pub mod Pollers
pub mod Watching
