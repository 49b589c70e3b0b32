pub mod Values
pub mod History
pub mod Domains
pub mod Reading
pub mod Copies
