pub mod Ceiling
pub mod CeilingCases
