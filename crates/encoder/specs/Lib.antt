pub mod Faults
pub mod Emission
pub mod Puts
