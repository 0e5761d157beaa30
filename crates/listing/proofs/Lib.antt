pub mod Spaces
pub mod Refused
pub mod Listed
pub mod Numbered
pub mod Joined
pub mod One
pub mod Sheets
