pub mod TreesLaws
pub mod ListingLaws
pub mod Ordering
pub mod VisitedLaws
pub mod Deciding
pub mod Testing
