pub mod Failures
pub mod Bytes
