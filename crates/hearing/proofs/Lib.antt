pub mod EndLaws
pub mod SearchTie
mod HearingLaws
pub mod OneAnswer
pub mod Examples
