pub mod Summing
pub mod Testing
pub mod Lent
pub mod Lowest
pub mod Words
pub mod Turns
pub mod Answers
pub mod TwelveAnswers
