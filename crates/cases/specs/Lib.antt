pub mod Cases
pub mod Proved
pub mod Due
