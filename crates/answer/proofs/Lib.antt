pub mod Lowest
pub mod Signs
