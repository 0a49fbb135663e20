mod Phases
mod Noops
mod Opening
mod Following
mod Applying
mod Taping
pub mod Sharing
mod Comparing
mod Places
mod Ending
mod Keeping
mod Entries
mod Standing
mod Shares
mod Passing
mod Resting
