pub mod Bounded
mod Falls
