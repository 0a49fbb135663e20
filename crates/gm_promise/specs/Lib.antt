pub mod Promise
