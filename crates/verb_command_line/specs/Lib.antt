pub mod Commands
pub mod Sets
pub mod Table
pub mod Meaning
pub mod Laws
pub mod WordReading
pub mod CommandView
