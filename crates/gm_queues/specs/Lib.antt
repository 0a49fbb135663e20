pub mod FunctionTables
pub mod NameHashes
pub mod Numbers
pub mod Queues
