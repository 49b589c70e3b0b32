pub mod Generator
pub mod Stages
