mod Cutting
mod Feeders
pub mod Heads
pub mod OneReading
pub mod Reading
mod Rests
mod Steps
mod Taking
mod Unloading
