pub mod Same
pub mod SameAnswers
pub mod SameRecords
pub mod SameSheets
pub mod SameTexts
pub mod Widened
pub mod WidenedSheets
