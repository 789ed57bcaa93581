pub mod Generator
pub mod Line
