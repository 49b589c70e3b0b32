pub mod Each
pub mod Work
