pub mod Propagation
pub mod Exactly
pub mod Cells
