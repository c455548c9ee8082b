pub mod Lines
pub mod Slacks
pub mod Answers
pub mod Longer
