pub mod CauseStages
pub mod StageView
pub mod FaultPaths
pub mod BrokenRules
pub mod CausesFile
