mod Finding
mod SiteLaws
mod Loops
mod SetLaws
mod OrderLaws
mod StepLaws
pub mod TraceLaws
mod Exactly
mod LineCounts
mod Spelled
mod HistoryPlaces
mod NoSets
