pub mod Rows
pub mod Page
pub mod Listed
pub mod Counts
pub mod Example
pub mod Columns
