mod RelayLaws
pub mod Theorems
