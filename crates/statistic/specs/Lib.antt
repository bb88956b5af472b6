pub mod Energy
pub mod Hits
pub mod Lawful
pub mod Model
pub mod Notes
pub mod Peak
pub mod Samples
