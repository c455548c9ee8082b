pub mod Unloaded
pub mod OldSheets
pub mod UnloadedCases
pub mod Same
pub mod SameSheets
pub mod SameProgram
