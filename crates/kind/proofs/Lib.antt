pub mod TableLaws
pub mod LabelLaws
