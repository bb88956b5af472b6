pub mod Decimals
pub mod Fronts
pub mod Lines
pub mod Tried
