pub mod Headed
pub mod Lines
pub mod Placed
pub mod Reading
pub mod Words
