pub mod Holes
pub mod Pieces
