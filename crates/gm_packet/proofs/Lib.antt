pub mod Cuts
pub mod Decimals
pub mod Joins
pub mod Outcomes
pub mod Packets
pub mod ReadBack
pub mod Reading
pub mod Requests
