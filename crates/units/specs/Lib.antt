pub mod Offsets
pub mod Steps
pub mod Heights
pub mod Nearest
