pub mod Lists
pub mod Front
pub mod Choices
pub mod Fits
