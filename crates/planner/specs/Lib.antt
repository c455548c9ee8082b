pub mod Placing
pub mod Promise
