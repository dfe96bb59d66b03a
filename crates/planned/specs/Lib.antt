pub mod Answers
pub mod Carried
pub mod Leaves
pub mod Plans
pub mod Printouts
pub mod Sessions
