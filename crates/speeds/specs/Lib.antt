pub mod Stretch
pub mod Halving
pub mod Promise
