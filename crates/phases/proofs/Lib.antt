pub mod OneAnswer
pub mod Phasing
pub mod Resting
pub mod Sounds
