pub mod Cells
pub mod Facts
