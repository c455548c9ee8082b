pub mod Finishes
pub mod Zeros
pub mod Packed
pub mod Version
pub mod Searches
