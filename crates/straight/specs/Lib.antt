pub mod Words
pub mod Layout
pub mod Whole
pub mod Stored
pub mod Opening
pub mod Bounds
pub mod Laws
