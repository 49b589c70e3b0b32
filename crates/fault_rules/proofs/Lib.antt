pub mod NegationLaws
pub mod ProgramNames
pub mod KeptItems
pub mod KeptFacts
pub mod WeavableLaw
pub mod KeyedLaws
pub mod LocalLaws
pub mod SiteFaults
mod StepLaws
mod SymbolLaws
mod CountLaws
pub mod PlacingLaws
