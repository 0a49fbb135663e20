pub mod FreeSlots
pub mod NameLemmas
pub mod Numbers
pub mod Scans
pub mod Slots
