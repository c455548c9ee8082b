pub mod Together
pub mod Meanings
pub mod Entries
