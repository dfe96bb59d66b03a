pub mod Reports
pub mod Model
pub mod Accepts
pub mod Calls
