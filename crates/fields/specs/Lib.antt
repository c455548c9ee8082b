pub mod Scan
pub mod Bytes
pub mod Digits
pub mod Wrote
pub mod Lengths
pub mod Values
pub mod Figures
pub mod Texts
