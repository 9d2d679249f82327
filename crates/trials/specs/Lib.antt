pub mod Hollow
