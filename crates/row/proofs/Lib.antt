pub mod Lines
pub mod Starts
pub mod Held
pub mod Words
