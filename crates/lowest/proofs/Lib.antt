pub mod Alone
pub mod Counted
pub mod Accepting
pub mod TwelveCases
pub mod Standing
