pub mod AllRows
pub mod Figures
pub mod Places
pub mod Entries
pub mod Products
pub mod Dues
pub mod Late
