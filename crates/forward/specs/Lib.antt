pub mod Forwarding
pub mod Splitting
