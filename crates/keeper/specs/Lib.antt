pub mod Keeping
pub mod History
pub mod Holding
pub mod Play
pub mod Bills
