pub mod Many
pub mod Listed
pub mod Standing
pub mod Images
pub mod Alone
pub mod TwelveCases
