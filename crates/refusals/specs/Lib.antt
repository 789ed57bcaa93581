pub mod Rows
pub mod Framing
pub mod Packets
pub mod Table
pub mod Outbox
