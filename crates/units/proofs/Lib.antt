mod Parts
pub mod Ranges
mod Rounding
pub mod Sums
pub mod Nearest
pub mod Undo
pub mod Order
