pub mod Listings
pub mod Layouts
pub mod Parts
pub mod Templates
