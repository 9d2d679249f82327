pub mod Hollows
