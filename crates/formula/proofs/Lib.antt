pub mod Joining
pub mod Bounds
pub mod Numbers
pub mod Equal
pub mod Ranges
pub mod Totals
pub mod Lawful
pub mod Unrolling
