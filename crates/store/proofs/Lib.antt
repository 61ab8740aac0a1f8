pub mod Meaning
pub mod Runs
pub mod Justify
pub mod Lines
pub mod Reading
pub mod Texts
pub mod Memory
pub mod Adding
