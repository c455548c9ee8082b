pub mod Unpromised
pub mod UnpromisedCases
pub mod Same
pub mod SameRecords
pub mod SameSheets
pub mod SameTexts
