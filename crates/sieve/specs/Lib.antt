pub mod Capture
pub mod Sieve
