pub mod Clauses
pub mod Growth
pub mod Numbers
pub mod Rendering
pub mod ReadBack
pub mod Rewriting
pub mod Spelling
