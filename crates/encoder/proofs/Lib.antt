pub mod Adding
pub mod Moved
pub mod Counting
pub mod Steps
pub mod Whole
