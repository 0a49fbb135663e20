pub mod ConnTables
pub mod Connections
pub mod Slots
