mod CoveringLaws
mod Highest
mod MarkLaws
mod StepLemmas
