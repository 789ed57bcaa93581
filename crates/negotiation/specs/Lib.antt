pub mod Replies
pub mod Messages
pub mod Wrapping
pub mod Automaton
pub mod StateTable
pub mod Credentials
pub mod Pap
pub mod Auth
