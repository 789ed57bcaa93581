pub mod Be
pub mod Below
pub mod Each
pub mod Quiet
pub mod Same
