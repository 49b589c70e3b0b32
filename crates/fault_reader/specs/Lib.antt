pub mod InstructionParts
pub mod InstructionDepths
pub mod InstructionGrammar
pub mod Symbols
