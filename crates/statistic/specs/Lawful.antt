-- Proofs that the kinds keep the laws of `Model`. The checker reads them, and a reader need not believe any of it.
pub mod Energy
pub mod Notes
pub mod Peak
pub mod Samples
pub mod Smooth
