pub mod TestLaws
pub mod NumberLaws
pub mod OctetLaws
pub mod TwosLaws
