pub mod Sentences
pub mod Reading
pub mod Scanned
pub mod Telling
pub mod Minus
pub mod SentenceCases
pub mod ReadsBack
pub mod RoundTrip
