pub mod AbilityLemmas
pub mod ConnTableLemmas
pub mod SlotLemmas
