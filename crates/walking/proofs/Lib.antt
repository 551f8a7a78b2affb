pub mod Words
pub mod Firsts
pub mod Steps
pub mod Choices
pub mod AddingLaws
pub mod Barring
