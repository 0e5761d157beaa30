pub mod Value
pub mod NextByte
pub mod Numerals
pub mod Stores
