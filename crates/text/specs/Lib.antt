pub mod Adds
pub mod Counts
pub mod Digits
pub mod Failures
pub mod Text
pub mod Wrote
