pub mod TwoWrongLevels
