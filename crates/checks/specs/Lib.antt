pub mod NeedLaws
pub mod RowLists
pub mod Limits
pub mod Counts
pub mod Keeping
pub mod Both
