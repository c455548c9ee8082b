pub mod Given
pub mod ReadsBack
pub mod RoundTrip
pub mod Longest
