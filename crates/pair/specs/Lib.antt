pub mod Pairs
pub mod Opening
pub mod Closing
pub mod ZeroedImage
