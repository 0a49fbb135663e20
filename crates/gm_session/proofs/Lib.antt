mod Gathering
mod Handing
pub mod Owning
pub mod Talking
