pub mod HeadLemmas
pub mod LineLemmas
pub mod PartLemmas
pub mod StreamLemmas
pub mod UnitLemmas
