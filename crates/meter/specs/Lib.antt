pub mod Take
pub mod Verdicts
