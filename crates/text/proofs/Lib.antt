pub mod AddsLaws
pub mod ReadLaws
pub mod WroteLaws
pub mod TextLaws
