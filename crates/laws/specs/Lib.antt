pub mod Decided
pub mod Ranges
pub mod Masks
pub mod Lists
pub mod Places
pub mod Lowest
