pub mod Grants
pub mod Lawful
pub mod Going
pub mod SoFar
