pub mod Fields
pub mod Exporting
