pub mod Jobs
pub mod Totals
pub mod Lines
