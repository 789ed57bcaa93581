pub mod Claim
pub mod Ends
pub mod Flags
pub mod Told
