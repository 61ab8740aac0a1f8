pub mod Kinds
pub mod Missing
pub mod Variables
