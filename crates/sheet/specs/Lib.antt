pub mod Layout
pub mod Sheets
pub mod Writing
pub mod Opening
pub mod Faithful
