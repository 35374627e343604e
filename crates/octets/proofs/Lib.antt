mod TakeLaws
pub mod AnswerLaws
pub mod Equality
pub mod Demand3
pub mod OfCalls
