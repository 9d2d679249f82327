pub mod Paces
pub mod Examples
