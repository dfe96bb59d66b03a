pub mod Tables
pub mod Appending
pub mod Codes
pub mod Refusals
pub mod Ends
pub mod Numbers
pub mod World
