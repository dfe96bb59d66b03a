pub mod Programs
pub mod Examples
pub mod Refused
