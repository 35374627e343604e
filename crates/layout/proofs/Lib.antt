pub mod LayoutLaws
pub mod LowestLaws
pub mod TroubleLaws
pub mod RuleLaws
