pub mod Layouts
pub mod Labels
