pub mod Phases
pub mod Sound
