pub mod Causes
pub mod Hearing
pub mod History
pub mod Laws
