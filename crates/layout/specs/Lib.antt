pub mod Layout
pub mod Trouble
pub mod Begins
pub mod Rules
