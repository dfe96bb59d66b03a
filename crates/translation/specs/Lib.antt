pub mod Held
pub mod Translated
