pub mod Fields
pub mod Lent
pub mod Quoted
pub mod Sheets
pub mod Program
pub mod Reports
pub mod Decimals
pub mod TextCases
