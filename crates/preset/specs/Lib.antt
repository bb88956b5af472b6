pub mod Questions
pub mod Wanted
