pub mod Ramped
pub mod Keeping
pub mod Lending
pub mod Spelled
pub mod Parsed
pub mod Lined
pub mod Copying
