pub mod Moves
pub mod Faults
pub mod ExtensionTraces
pub mod Conservative
pub mod WovenProgram
pub mod WeaveLaws
pub mod Lookups
