pub mod Ages
pub mod Formulas
pub mod AgeColumn
pub mod EventColumn
pub mod HitColumn
pub mod OwnColumn
pub mod Known
pub mod Hits
pub mod Occurrence
pub mod OneCause
pub mod EachCause
pub mod Owns
pub mod StagedTraces
pub mod Stood
pub mod Readings
pub mod Events
pub mod OneEach
pub mod Longer
pub mod Traces
pub mod AddedReadings
pub mod Columns
pub mod AddedKnown
pub mod Grown
pub mod Carried
pub mod Alike
pub mod Staged
pub mod CausesExtendedCarried
mod UncausedExtended
pub mod AddedKinds
pub mod RightTrees
pub mod HistoryKinds
mod FormulaKinds
pub mod StagedKinds
pub mod ShortCauses
mod Differ
mod Declared
mod Places
mod NewNames
mod Slices
pub mod Names
mod Causes
mod FaultNamesEvents
mod Accepted
mod Examples
