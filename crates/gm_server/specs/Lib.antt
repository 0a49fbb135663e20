pub mod Arguments
pub mod Statuses
pub mod Outcomes
