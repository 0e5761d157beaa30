pub mod Tested
pub mod StartTest
pub mod Started
pub mod One
