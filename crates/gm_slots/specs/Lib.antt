pub mod Owners
pub mod Given
pub mod Connections
pub mod Accounts
pub mod Served
