pub mod Ends
pub mod Hearing
