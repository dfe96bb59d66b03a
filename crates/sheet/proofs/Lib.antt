pub mod Entries
pub mod Halves
pub mod Fields
pub mod Framing
pub mod Written
pub mod Faith
