pub mod Stuck
pub mod StuckCases
pub mod Sets
pub mod Ways
