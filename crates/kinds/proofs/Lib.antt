pub mod Ruling
pub mod Sealed
mod Adding
pub mod Looking
