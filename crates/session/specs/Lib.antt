pub mod Acting
pub mod History
pub mod Law
