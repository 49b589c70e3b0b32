pub mod SymbolMeanings
pub mod ProgramSound
pub mod ProgramComplete
pub mod ProgramReads
pub mod PartLaws
pub mod PartReads
