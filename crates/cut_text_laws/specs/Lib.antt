pub mod TraceText
pub mod TraceOfText
pub mod TraceFaults
pub mod Laws
pub mod Lines
pub mod Analysis
pub mod AnalysisText
