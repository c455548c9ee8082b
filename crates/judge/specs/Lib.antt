pub mod Checked
pub mod Down
pub mod Stored
pub mod Signed
pub mod Late
pub mod Least
pub mod Promise
pub mod Gather
