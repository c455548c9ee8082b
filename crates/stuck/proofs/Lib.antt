pub mod Cuts
pub mod Held
pub mod Trouble
pub mod Ways
pub mod Slacks
