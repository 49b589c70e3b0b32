pub mod ArithmeticGates
pub mod Sorts
pub mod ModelNames
pub mod Parts
pub mod Branches
pub mod BuiltSignals
pub mod Choices
