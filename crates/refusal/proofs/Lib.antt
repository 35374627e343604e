pub mod CheckLaws
pub mod Mapped
pub mod One
pub mod OkOr
