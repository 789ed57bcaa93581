pub mod OneAnswer
pub mod Writing
