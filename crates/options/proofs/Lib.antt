pub mod Fair
pub mod Judging
pub mod Numbers
pub mod Replying
pub mod Suggesting
pub mod Walks
pub mod Wires
