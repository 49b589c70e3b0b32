pub mod ListLemmas
pub mod NumberLemmas
pub mod SetLemmas
pub mod FitLemmas
pub mod PairLemmas
pub mod SoundLemmas
pub mod LoopLemmas
pub mod StepLemmas
pub mod CompleteLemmas
pub mod ValueLemmas
pub mod MadeLemmas
pub mod InsideLemmas
pub mod OutsideLoop
pub mod VerbLemmas
pub mod ReadingLaws
pub mod SeenLemmas
mod Examples
