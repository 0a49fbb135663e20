pub mod Notices
pub mod Statuses
