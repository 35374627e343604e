mod ListingLaws
pub mod OneAnswer
pub mod Examples
