pub mod WordLaws
mod PackingLaws
