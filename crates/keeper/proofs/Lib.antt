pub mod Steps
pub mod Effects
pub mod Cover
pub mod Cycles
pub mod Room
pub mod Shown
pub mod BillLists
pub mod Plays
