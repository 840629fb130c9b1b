pub mod Finds
pub mod LineTexts
pub mod Lines
pub mod LogLaws
pub mod Logged
pub mod MovedLaws
pub mod Targets
pub mod Printed
