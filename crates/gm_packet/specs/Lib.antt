pub mod Answers
pub mod Decimals
pub mod Kinds
pub mod Laws
pub mod Packets
pub mod Requests
pub mod Texts
pub mod Views
