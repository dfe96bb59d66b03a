pub mod Cutting
pub mod Pairs
pub mod Figures
pub mod Heard
pub mod Written
pub mod Behind
pub mod Items
pub mod Missed
