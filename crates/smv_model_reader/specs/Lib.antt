pub mod ProgramGrammar
pub mod ProgramDepths
pub mod Symbols
pub mod ProgramParts
