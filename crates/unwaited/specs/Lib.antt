pub mod Unwaited
pub mod OldRecords
pub mod OldSheets
pub mod OldTexts
pub mod UnwaitedCases
