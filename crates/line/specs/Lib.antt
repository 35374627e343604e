pub mod Levels
pub mod Machine
pub mod Told
pub mod Sending
pub mod WrongLevel
