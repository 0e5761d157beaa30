pub mod Digits
pub mod Numerals
pub mod Texts
