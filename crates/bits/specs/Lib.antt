pub mod Tests
pub mod Numbers
pub mod Octets
pub mod Twos
