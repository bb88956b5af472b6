pub mod Room
pub mod Sheet
