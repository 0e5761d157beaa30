pub mod Started
pub mod Front
