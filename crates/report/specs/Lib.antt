pub mod Lines
pub mod Outputs
pub mod Endings
