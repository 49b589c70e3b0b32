pub mod Bytes
pub mod Runs
pub mod Tokens
pub mod Faults
pub mod Scan
pub mod SignView
