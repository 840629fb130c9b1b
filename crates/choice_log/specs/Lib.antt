pub mod ChoiceLines
pub mod ListLaws
pub mod Listed
