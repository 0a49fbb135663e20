pub mod Abilities
mod Alike
pub mod ByteLaws
pub mod Clocks
pub mod Created
pub mod Endings
pub mod Grabs
mod Handles
pub mod Highest
pub mod JobLaws
pub mod Limits
pub mod Modes
mod Moving
mod NumberLaws
pub mod OnlyEnds
pub mod Orders
pub mod Orphans
mod Outputs
pub mod Passing
mod PutOff
mod Retries
mod Runners
mod SideBySide
pub mod Sleepers
pub mod StepLaws
pub mod ToldOnce
pub mod TurnLaws
pub mod Submitting
pub mod Statuses
pub mod Submitted
mod Turned
mod Unmade
mod Waiting
pub mod Wakes
pub mod Taken
pub mod Rests
pub mod Raised
pub mod Hearers
pub mod Firsts
pub mod Refusals
pub mod Parting
pub mod Lines
pub mod Assigning
pub mod Barred
pub mod News
pub mod Spelled
pub mod Words
pub mod Shut
pub mod Keeping
pub mod Withdrawing
pub mod Answering
pub mod Named
pub mod Rounds
pub mod Reading
pub mod Written
pub mod Commanding
pub mod Fitting
