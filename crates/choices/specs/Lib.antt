pub mod Choices
pub mod ChoicesCases
