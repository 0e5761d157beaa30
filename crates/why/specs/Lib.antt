pub mod Why
pub mod Examples
