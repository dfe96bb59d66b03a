pub mod State
pub mod Instructions
pub mod Machine
pub mod Links
pub mod Seen
