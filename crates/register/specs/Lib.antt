pub mod Texts
pub mod Lexer
pub mod Records
pub mod Reading
pub mod Register
pub mod Examples
