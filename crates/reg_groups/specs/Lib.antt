pub mod GroupLending
pub mod Roles
