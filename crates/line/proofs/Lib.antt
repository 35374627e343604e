pub mod WindowLaws
pub mod LevelLaws
pub mod SendingLaws
pub mod Holding
pub mod Demand3
pub mod OfCalls
pub mod OneWrongLevel
