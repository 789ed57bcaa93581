pub mod Accepting
pub mod Contents
pub mod Counting
mod Examples
pub mod Histories
pub mod Keeping
pub mod Queue
pub mod Rings
pub mod Sending
