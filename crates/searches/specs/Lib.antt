pub mod Speeds
pub mod SpeedCases
