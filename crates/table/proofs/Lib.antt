pub mod Lists
pub mod Numbers
pub mod Keeps
pub mod Written
pub mod Lowest
pub mod Walks
pub mod Decided
