pub mod Concluded
pub mod Listed
pub mod Proved
