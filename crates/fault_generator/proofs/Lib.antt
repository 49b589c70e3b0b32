pub mod Writable
pub mod RailLaws
