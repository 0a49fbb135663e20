pub mod Answers
pub mod Heads
pub mod Streams
pub mod Units
