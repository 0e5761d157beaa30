pub mod Table
pub mod Pass
