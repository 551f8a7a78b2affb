pub mod ByteForm
pub mod Answers
pub mod Promises
pub mod FormLaws
pub mod Outcomes
pub mod Deciding
