pub mod Answers
pub mod Events
pub mod Items
pub mod Spelt
