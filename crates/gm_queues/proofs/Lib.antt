pub mod FunctionTableLemmas
pub mod NameLemmas
pub mod PositionLemmas
pub mod QueueLemmas
