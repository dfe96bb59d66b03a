pub mod Styling
pub mod Joining
pub mod Walking
pub mod Parting
pub mod Weighing
pub mod Counted
pub mod Aligning
