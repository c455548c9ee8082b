pub mod Lines
pub mod SheetsDiffer
pub mod Writer
pub mod RoundTrip
