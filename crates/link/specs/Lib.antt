pub mod Refusal
pub mod Choices
pub mod Frames
pub mod Link
pub mod Reached
