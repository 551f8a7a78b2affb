pub mod Numbering
pub mod Trees
pub mod Standing
pub mod Listing
pub mod Coding
pub mod Visiting
pub mod Testing
