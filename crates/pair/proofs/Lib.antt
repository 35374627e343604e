mod Table
pub mod PairRules
pub mod PairLaws
pub mod ZeroedLaws
pub mod Demand2
pub mod FirstTrouble
pub mod DigitsIgnored
pub mod KindsRead
