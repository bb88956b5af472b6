pub mod Kept
pub mod Method
pub mod Stands
pub mod Thins
