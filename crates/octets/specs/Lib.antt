pub mod Feeding
pub mod OctetSteps
pub mod ToldOctets
