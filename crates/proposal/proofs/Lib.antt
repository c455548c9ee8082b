pub mod Passing
pub mod Renewing
pub mod Asked
