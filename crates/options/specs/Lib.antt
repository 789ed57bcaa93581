pub mod Refusal
pub mod Wire
pub mod Options
pub mod Lcp
pub mod Ipv4cp
pub mod Proto
pub mod Reply
