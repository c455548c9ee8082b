pub mod Sound
pub mod Kept
pub mod FreshRuns
