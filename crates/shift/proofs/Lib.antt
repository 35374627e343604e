pub mod ShiftLaws
mod PlaceLaws
pub mod Theorems
