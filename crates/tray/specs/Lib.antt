pub mod Places
pub mod Trays
