pub mod Answers
pub mod Figures
pub mod Following
pub mod Scanning
pub mod Slacks
pub mod Walks
pub mod Composed
pub mod Told
