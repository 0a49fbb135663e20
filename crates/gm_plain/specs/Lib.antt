pub mod Holds
pub mod Listings
pub mod Logs
pub mod Outboxes
pub mod Searches
