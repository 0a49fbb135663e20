mod PositionLemmas
mod PollerLemmas
mod HeedLemmas
