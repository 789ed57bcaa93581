pub mod Chosen
pub mod Hearing
pub mod Leaving
pub mod Numbers
pub mod OneAnswer
pub mod Polling
pub mod Reached
pub mod Sending
