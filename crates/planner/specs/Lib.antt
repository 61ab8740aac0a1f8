pub mod Contents
pub mod Histories
