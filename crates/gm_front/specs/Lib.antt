pub mod Feeding
pub mod Fronts
pub mod Inputs
pub mod Readings
pub mod Units
