pub mod FaultText
pub mod AnalysisView
pub mod Names
pub mod Cuts
pub mod ValueReading
pub mod Lookups
pub mod Faults
pub mod TraceReading
