mod EveryLaws
pub mod ThreeTests
pub mod FrameLaws
pub mod LeadLaws
pub mod Images
