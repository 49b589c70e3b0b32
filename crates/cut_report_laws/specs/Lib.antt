pub mod SearchAnswer
pub mod Laws
pub mod Searchable
pub mod ExtendedTraces
pub mod AnalysisText
pub mod Tables
