pub mod Judging
pub mod Masking
pub mod Ends
pub mod Outcome
pub mod EndsLaws
