pub mod Rfc1661
pub mod Rfc1662Options
pub mod Rfc1332
pub mod Rfc1334
